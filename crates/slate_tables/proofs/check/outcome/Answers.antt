use Rattle.std.proofs.Common.{◌≡◌, ◌⊎◌, inl, inr, ℕ, zero, ◌+◌, ◌<◌, List, [], ◌∷◌, ◌++◌, length, refl, sym, ap, ◌∙◌, subst, arith}
use Rattle.std.specs.Prelude.{IfErr, IfOk, IsSome, None, Ok, Err, Option, Result, Some, slice_get, string_bytes}
use Rattle.slate_types.specs.declared.error.SlateDBError.TheVariants.{BlockTransformError, StoreFault}
use Rattle.slate_types.specs.declared.types.RowEntry.{RowEntry}
use Rattle.slate_types.specs.Outside.{IsFault, OnlyReads, Reach}
use Rattle.slate_types.proofs.Reaching.{reads_none, reads_then}
use Rattle.slate_types.proofs.StillLaws.{still_same, still_then, unasked_still}
use Rattle.slate_table.specs.IndexValue.{entries_of}
use Rattle.slate_table.specs.StatsReading.{stats_of}
use Rattle.slate_tables.specs.declared.check.Flaw.{Flaw}
use Rattle.slate_tables.specs.declared.check.Part.{Part}
use Rattle.slate_tables.specs.declared.check.Tallied.{Tallied}
use Rattle.slate_tables.specs.declared.check.Tallied.TheVariants as tallies
use Rattle.slate_tables.specs.Checks.{IsFlawedIn, IsTallied}
use Rattle.slate_tables.specs.Finds.{FindsRowsOf, asked_of, reader_reach}
use Rattle.slate_tables.specs.Tallies.{IsTally}
use Rattle.slate_tables.proofs.CheckLaws.{blocks_said}
use Rattle.slate_tables.proofs.check.outcome.Goals as goal

pub returns-in-Good : goal.returns-in-Good
returns-in-Good c = λ w entries parts said.
    (let h = c.args.file.now.handle in
    let P : Tallied → Type 0 = λ x. IsTallied w h entries (length entries) x in
    let t = subst P c.in-Good.is said in
    c.compared.ensures w t.0 parts.opened (blocks_said w h (stats_of c.args.stats.now) entries t.0 parts t.1 t.2) t.3)

pub returns-in-Flawed : goal.returns-in-Flawed
returns-in-Flawed c = λ w entries parts said.
    (let h = c.args.file.now.handle in
    let P : Tallied → Type 0 = λ x. IsTallied w h entries (length entries) x in
    let t = subst P c.in-Flawed.is said in
    let Q : Part → Type 0 = λ p. IsFlawedIn w h p c.in-Flawed.flaw.offset c.in-Flawed.flaw.error in
    inr (h, refl, parts.opened, subst Q (sym t.2) (entries, parts.has_index, t.1, t.3, t.4)))
