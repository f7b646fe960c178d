-- A table's last bytes lead to its info.
use Rattle.std.proofs.Common.{◌≡◌, ℕ, ◌+◌, ◌^◌, ◌<◌, List, ◌++◌, length, flat_map, Option, refl, sym, ap, subst, ◌∙◌, arith}
use Rattle.std.proofs.lemmas.List.{length-append}
use Rattle.slate_types.specs.declared.types.RowEntry.{RowEntry}
use Rattle.slate_table.specs.FileLaws.{table_info}
use Rattle.slate_table.specs.Parts.{Encode, cover_of, info_kind, summed}
use Rattle.slate_table.specs.SectionReading.{footer_bytes}
use Rattle.slate_table.specs.Table.{IsTableOf, block_sections, filters_section, index_section, info_of, stats_section}
use Rattle.slate_table.specs.TableEnd.{HasInfo}
use Rattle.slate_block.proofs.Versions.{below_16}
use Rattle.slate_table.proofs.BuiltLaws.{blocks_rows, first_short, last_short}
use Rattle.slate_table.proofs.FrameReads.{sections_split}

module _ (encode : Encode) (bytes : List ℕ) (version id : ℕ) (blocks : List (List RowEntry)) (filters : List (List ℕ × List ℕ)) where
  abbrev rows_of : List RowEntry
  rows_of = flat_map (λ b. b) blocks

  abbrev b : List ℕ
  b = flat_map (λ s. s) (block_sections encode version id blocks)

  abbrev f : List ℕ
  f = filters_section encode version id blocks filters

  abbrev i : List ℕ
  i = index_section encode version id blocks filters

  abbrev s : List ℕ
  s = stats_section encode version id blocks filters

  abbrev front : List ℕ
  front = ((b ++ f) ++ i) ++ s

  abbrev part : List ℕ
  part = info_of version rows_of (length b) f i s

  pub has_info : IsTableOf encode bytes version id blocks filters → HasInfo bytes version id (table_info encode version id blocks filters)
  has_info t =
      let whole : bytes ≡ front ++ (summed (cover_of version id info_kind (length front)) part ++ footer_bytes (length front) version) = t.is ∙ sections_split version id rows_of b f i s in
      let n = ap length whole ∙ length-append front (summed (cover_of version id info_kind (length front)) part ++ footer_bytes (length front) version) in
      let short : length front < 2 ^ 64 = omega (arith, n, t.short) in
      let p = length-append b f in
      let q = length-append (b ++ f) i in
      let r = length-append ((b ++ f) ++ i) s in
      let fit = blocks_rows version blocks t.each in
      record {
        before = front;
        part = part;
        is = whole;
        spelled = record {
          known = below_16 version t.known;
          first = first_short rows_of fit;
          last = last_short rows_of fit;
          index = (omega (arith, p, q, r, short), omega (arith, p, q, r, short));
          filters = (omega (arith, p, q, r, short), omega (arith, p, q, r, short));
          stats = (omega (arith, p, q, r, short), omega (arith, p, q, r, short));
          is = refl;
        };
        lies = (omega (arith, p, q, r), omega (arith, p, q, r), omega (arith, p, q, r));
      }
