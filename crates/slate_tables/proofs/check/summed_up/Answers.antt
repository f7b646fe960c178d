use Rattle.std.proofs.Common.{◌≡◌, ◌⊎◌, inl, inr, List, refl, sym, ap, ◌∙◌, subst}
use Rattle.std.proofs.lemmas.Bool.{false≢true}
use Rattle.slate_table.specs.Table.{some_first, some_last}
use Rattle.slate_table.specs.FileLaws.{table_stats}
use Rattle.slate_tables.specs.Good.{Summary, rows_of}
use Rattle.slate_tables.proofs.check.summed_up.Goals as goal

pub returns-then-has_keys : goal.returns-then-has_keys
returns-then-has_keys c = λ w blocks opened read good span count.
    (let h = c.args.file.now.handle in
    let keys = c.has_keys.ensures.0 c.if-has_keys.true in
    let is = c.summary_of-summary.ensures (rows_of blocks) span count in
    record {
      table = h;
      named = refl;
      blocks = blocks;
      read = read;
      good = good;
      first = keys.0 ∙ ap (λ (x : Summary). x.first) is;
      last = keys.1 ∙ ap (λ (x : Summary). x.last) is;
      summary = is;
    })

pub returns : goal.returns
returns c = λ w blocks opened read good span count.
    (let h = c.args.file.now.handle in
    let is = c.summary_of-summary.ensures (rows_of blocks) span count in
    let other = λ (first : h.info.first_entry ≡ some_first (rows_of blocks)) (last : h.info.last_entry ≡ some_last (rows_of blocks)).
    (let same = c.has_keys.ensures.1 (first ∙ sym (ap (λ (x : Summary). x.first) is), last ∙ sym (ap (λ (x : Summary). x.last) is)) in false≢true (sym c.if-has_keys.false ∙ same)) in
    rw c.torn.ensures (inr (h, refl, opened, (refl, (table_stats blocks, blocks, read, other)))))
