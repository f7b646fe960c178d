use Rattle.std.proofs.Common.{List, ℕ, Option, inl, inr, refl, subst}
use Rattle.std.specs.Prelude.{string_bytes}
use Rattle.std.proofs.lemmas.Result.{err_from_is_err_and, IfOk-from_err}
use Rattle.slate_table.specs.Paths.{path_of}
use Rattle.slate_table.specs.Opening.{IsMeasured}
use Rattle.slate_table.proofs.Results.{store_still, store_err}
use Rattle.slate_table.proofs.sst_file.SstFile.metadata.Goals as goal

pub returns-in-None : goal.returns-in-None
returns-in-None g c =
    let store = c.args.reader.now.store in
    let after = c.object_len.new.store in
    let id = c.args.self.now.handle.id.0 in
    let measured = subst (λ (root : List ℕ). IsMeasured (g.S.Store.objects store) (g.S.Store.acts store) (g.S.Store.acts after) (path_of root id) c.in_ok-size.size) c.as_str.ensures.value c.in_ok-size.ensures.measured in
    let none = subst (λ (size : Option ℕ). IsMeasured (g.S.Store.objects store) (g.S.Store.acts store) (g.S.Store.acts after) (path_of (string_bytes c.args.reader.now.root_path) id) size) c.in-None.is measured in
    record {
      size = tt;
      id = tt;
      cause = (inr (none, c.corrupt.ensures));
      once = (inr none);
      objects = c.object_len.ensures.reaches.same_objects;
      root = refl;
      transformer = refl;
      later = c.object_len.ensures.reaches.later;
      still = inr (store_still c.in_ok-size.size c.in_ok-size.ensures.reaches.still);
    }

pub returns-in_err-size : goal.returns-in_err-size
returns-in_err-size g c =
    let p = err_from_is_err_and c.from_residual.result c.from_residual.ensures.1 in
    record {
      size = IfOk-from_err c.from_residual.result _ c.from_residual.ensures.0;
      id = IfOk-from_err c.from_residual.result _ c.from_residual.ensures.0;
      cause = rw (p.1, p.2) (inl c.in_err-size.ensures.cause);
      once = rw p.1 (inl c.in_err-size.ensures.none);
      objects = c.object_len.ensures.reaches.same_objects;
      root = refl;
      transformer = refl;
      later = c.object_len.ensures.reaches.later;
      still = rw (p.1, p.2) (store_err c.in_err-size.field-0.0 c.in_err-size.ensures.reaches.still);
    }

pub returns-in-Some : goal.returns-in-Some
returns-in-Some g c =
    record {
      size = (let store = c.args.reader.now.store in
          let after = c.object_len.new.store in
          let id = c.args.self.now.handle.id.0 in
          let measured = subst (λ (root : List ℕ). IsMeasured (g.S.Store.objects store) (g.S.Store.acts store) (g.S.Store.acts after) (path_of root id) c.in_ok-size.size) c.as_str.ensures.value c.in_ok-size.ensures.measured in
          subst (λ (size : Option ℕ). IsMeasured (g.S.Store.objects store) (g.S.Store.acts store) (g.S.Store.acts after) (path_of (string_bytes c.args.reader.now.root_path) id) size) c.in-Some.is measured);
      id = refl;
      cause = tt;
      once = tt;
      objects = c.object_len.ensures.reaches.same_objects;
      root = refl;
      transformer = refl;
      later = c.object_len.ensures.reaches.later;
      still = inr (store_still c.in_ok-size.size c.in_ok-size.ensures.reaches.still);
    }
