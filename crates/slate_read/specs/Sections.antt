-- Where the sections of a stored table's blocks lie in a read of neighbouring blocks.
--     part_twice      a part of a part
--     starts_apart, starts_rise, starts_upto      each block begins behind the one before it
--     starts_within      and inside the table
--     section_there      what an honest answer says of the section of a block
use Rattle.std.proofs.Common.{◌≡◌, ◌<◌, ◌≤◌, ◌+◌, ◌-◌, ℕ, suc, zero, Bool, true, false, cond, leb, List, take, drop, length, Option, Some, None, refl, sym, ap, subst, ◌∙◌, arith, inl}
use Rattle.std.specs.Prelude.{nat_lt}
use Rattle.std.proofs.lemmas.Bool.{le-leb}
use Rattle.std.proofs.lemmas.List.{length-take-le, length-take, length-drop, take-take, drop-take, drop-drop}
use Rattle.slate_types.specs.declared.error.SlateDBError.{SlateDBError}
use Rattle.slate_types.specs.declared.error.SlateDBError.TheVariants.{CorruptTable}
use Rattle.slate_types.specs.World.{Kept, World}
use Rattle.slate_store.specs.Store.{part_of}
use Rattle.slate_block.specs.RowReading.{refusal}
use Rattle.slate_table.specs.declared.info.SsTableHandle.{SsTableHandle}
use Rattle.slate_table.specs.Reading.{of_block, of_blocks, stored_of}
use Rattle.slate_table.specs.SectionReading.{part_in}
use Rattle.slate_read.specs.TableWalk.{IsReadable, block_lies, block_part, size_between, size_of, start_of}

-- a part of a part
pub part_twice : (bytes : List ℕ) (a m d n : ℕ) → a + m ≤ length bytes → d + n ≤ m → part_of (part_of (Some bytes) a m) d n ≡ part_of (Some bytes) (a + d) n
part_twice bytes a m d n whole inner =
    let dropped = length-drop a bytes in
    let taken : length (take m (drop a bytes)) ≡ m = length-take-le m (drop a bytes) (omega (arith, whole, dropped)) in
    let rest : d + (m - d) ≡ m = omega (arith, inner) in
    ap (λ o. part_of o d n) (ap (λ t. cond t (Some (take m (drop a bytes))) None) (le-leb (a + m) (length bytes) whole))
    ∙ ap (λ t. cond t (Some (take n (drop d (take m (drop a bytes))))) None) (le-leb (d + n) (length (take m (drop a bytes))) (omega (arith, inner, taken)))
    ∙ ap (λ x. Some (take n (drop d (take x (drop a bytes))))) (sym rest)
    ∙ ap (λ xs. Some (take n xs)) (drop-take d (m - d) (drop a bytes))
    ∙ ap Some (take-take n (m - d) (drop d (drop a bytes)) (omega (arith, inner)))
    ∙ ap (λ xs. Some (take n xs)) (drop-drop d a bytes)
    ∙ sym (ap (λ t. cond t (Some (take n (drop (a + d) bytes))) None) (le-leb (a + d + n) (length bytes) (omega (arith, whole, inner))))

-- a section has a checksum at least
long : (cover bytes : List ℕ) → ((e : SlateDBError) → refusal (part_in cover bytes) ≡ Some e → ⊥) → 4 ≤ length bytes
unfolding part_in
long cover bytes fine = by (nat_lt (length bytes) 4) refl
  where
    by : (t : Bool) → nat_lt (length bytes) 4 ≡ t → 4 ≤ length bytes
    by true is = absurd (fine (CorruptTable 0) (rw is refl))
    by false is = grind (arith, is)

short : (size : ℕ) (bytes : List ℕ) → length (take size bytes) ≤ size
short zero bytes = omega arith
short (suc n) bytes = by bytes
  where
    by : (xs : List ℕ) → length (take (suc n) xs) ≤ suc n
    by xs = let k = length-take (suc n) xs in grind (arith, k)

module _ (w : World) (h : SsTableHandle) (kept : Kept) (table : IsReadable w h kept) where
  -- each block begins behind the one before it
  pub starts_apart : (i : ℕ) → i < length table.entries → start_of h table.entries i + 4 ≤ start_of h table.entries (i + 1)
  starts_apart i lt = by (leb (start_of h table.entries i + size_of h table.entries i) (length kept.bytes)) refl
    where
      bytes : List ℕ
      bytes = take (size_of h table.entries i) (drop (start_of h table.entries i) kept.bytes)

      cover : List ℕ
      cover = (block_lies h table.entries i).cover

      fine : (answer : Option (List ℕ)) → part_of (Some kept.bytes) (start_of h table.entries i) (size_of h table.entries i) ≡ answer → (e : SlateDBError) → refusal (stored_of cover answer) ≡ Some e → ⊥
      fine answer is e k = table.block_fine i e lt (inl (ap (λ (a : Option (List ℕ)). refusal (stored_of cover a)) is ∙ k))

      by : (t : Bool) → leb (start_of h table.entries i + size_of h table.entries i) (length kept.bytes) ≡ t → start_of h table.entries i + 4 ≤ start_of h table.entries (i + 1)
      by true is =
          let many = long cover bytes (fine (Some bytes) (ap (λ t. cond t (Some bytes) None) is)) in
          let few = short (size_of h table.entries i) (drop (start_of h table.entries i) kept.bytes) in
          omega (arith, many, few)
      by false is = absurd (fine None (ap (λ t. cond t (Some bytes) None) is) (CorruptTable 0) refl)

  pub starts_rise : (i n : ℕ) → i + n ≤ length table.entries → start_of h table.entries i ≤ start_of h table.entries (i + n)
  starts_rise i zero le = let same : i + 0 ≡ i = omega arith in subst (λ k. start_of h table.entries i ≤ start_of h table.entries k) (sym same) (omega arith)
  starts_rise i (suc n) le =
      let same : i + suc n ≡ i + n + 1 = omega arith in
      let before = starts_rise i n (omega (arith, le)) in
      let last = starts_apart (i + n) (omega (arith, le)) in
      subst (λ k. start_of h table.entries i ≤ start_of h table.entries k) (sym same) (omega (arith, before, last))

  pub starts_upto : (i j : ℕ) → i ≤ j → j ≤ length table.entries → start_of h table.entries i ≤ start_of h table.entries j
  starts_upto i j le within =
      let same : i + (j - i) ≡ j = omega (arith, le) in
      subst (λ k. start_of h table.entries i ≤ start_of h table.entries k) same (starts_rise i (j - i) (omega (arith, le, within)))

  pub starts_within : (stop : ℕ) → 0 < stop → stop ≤ length table.entries → start_of h table.entries stop ≤ length kept.bytes
  starts_within stop some within =
      let last = table.inside _ (table.block_place (stop - 1) (omega (arith, some, within))) in
      let apart = starts_apart (stop - 1) (omega (arith, some, within)) in
      let same : stop - 1 + 1 ≡ stop = omega (arith, some) in
      subst (λ k. start_of h table.entries k ≤ length kept.bytes) same (omega (arith, last, apart))

  -- what an honest answer says of the section of a block
  pub section_there : (first stop at : ℕ) → first ≤ at → at < stop → stop ≤ length table.entries →
      of_blocks h table.entries first (part_of (Some kept.bytes) (start_of h table.entries first) (size_between h table.entries first stop)) at ≡ block_part h kept table.entries at
  section_there first stop at from below within =
      let a = starts_upto first at from (omega (arith, below, within)) in
      let b = starts_apart at (omega (arith, below, within)) in
      let c = starts_upto (at + 1) stop (omega (arith, below)) within in
      let d = starts_within stop (omega (arith, below)) within in
      let place : start_of h table.entries first + size_between h table.entries first at ≡ start_of h table.entries at = omega (arith, a) in
      ap (λ (answer : Option (List ℕ)). of_block h table.entries at answer)
      (part_twice kept.bytes (start_of h table.entries first) (size_between h table.entries first stop) (size_between h table.entries first at) (size_of h table.entries at) (omega (arith, a, b, c, d)) (omega (arith, a, b, c))
      ∙ ap (λ n. part_of (Some kept.bytes) n (size_of h table.entries at)) place)
