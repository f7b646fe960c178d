-- Blocks that are read one after the other.
use Rattle.std.proofs.Common.{◌≡◌, ℕ, zero, suc, ◌+◌, ◌-◌, ◌<◌, ◌≤◌, List, [], ◌∷◌, ◌++◌, length, Option, Some, ◌⊎◌, inl, inr, subst, ap, ◌∙◌, arith}
use Rattle.std.specs.Prelude.{slice_get}
use Rattle.std.proofs.lemmas.List.{length-append}
use Rattle.std.proofs.lemmas.Option.{same_Some, slice_get_cases}
use Rattle.slate_types.specs.declared.error.SlateDBError.{SlateDBError}
use Rattle.slate_types.specs.declared.error.SlateDBError.TheVariants.{OutOfMemory}
use Rattle.slate_types.specs.Outside.{Objects}
use Rattle.slate_store.specs.Store.{Act}
use Rattle.slate_block.specs.declared.block.Block.{Block}
use Rattle.slate_table.specs.declared.info.SsTableHandle.{SsTableHandle}
use Rattle.slate_table.specs.declared.section.SectionPlace.{SectionPlace}
use Rattle.slate_table.specs.Parts.{Encode, block_kind}
use Rattle.slate_table.specs.Reading.{SectionRead, section_read, read_at, of_blocks, block_start, block_answer, IsRead, Reads, IsStoreFault, FailsDecoding, IsBlockRead, RefusesBlock, AreBlocksRead, RefusesBlocks, FailsBlocks}

each_more : {A : Type 0} (P : ℕ → A → Type 0) (xs : List A) (y : A) → ((i : ℕ) (x : A) → slice_get xs i ≡ Some x → P i x) → P (length xs) y →
    (i : ℕ) (x : A) → slice_get (xs ++ y ∷ []) i ≡ Some x → P i x
each_more P [] y each last zero x at = subst (P zero) (same_Some y x at) last
each_more P [] y each last (suc i) x at = absurd cc
each_more P (z ∷ zs) y each last zero x at = each zero x at
each_more {A} P (z ∷ zs) y each last (suc i) x at = each_more (λ (k : ℕ) (a : A). P (suc k) a) zs y (λ k a is. each (suc k) a is) last i x at

pub one_more : (decode now : Encode) (sections : ℕ → SectionRead) (section : SectionRead) (first at : ℕ) (blocks : List Block) (block : Block) →
    now ≡ decode → section ≡ sections at → first ≤ at → length blocks ≡ at - first → AreBlocksRead decode sections first blocks → IsBlockRead now section block →
    AreBlocksRead decode sections first (blocks ++ block ∷ [])
one_more decode now sections section first at blocks block same there from count each read =
    let place : at ≡ first + length blocks = omega (arith, from, count) in
    let decoded = subst (λ (d : Encode). IsBlockRead d section block) same read in
    let answered = subst (λ (s : SectionRead). IsBlockRead decode s block) (there ∙ ap sections place) decoded in
    each_more (λ (i : ℕ) (b : Block). IsBlockRead decode (sections (first + i)) b) blocks block each answered

pub one_longer : (blocks : List Block) (block : Block) (first at : ℕ) → first ≤ at → length blocks ≡ at - first → length (blocks ++ block ∷ []) ≡ at + 1 - first
one_longer blocks block first at from count = omega (arith, length-append blocks (block ∷ []), from, count)

pub before : (decode : Encode) (sections : ℕ → SectionRead) (first at i : ℕ) (blocks : List Block) → length blocks ≡ at - first → AreBlocksRead decode sections first blocks →
    first ≤ i → i < at → (block : Block) × IsBlockRead decode (sections i) block
before decode sections first at i blocks count each from below =
    elim (slice_get_cases blocks (i - first)).1 [
      | inl found ↦
          let place : first + (i - first) ≡ i = omega (arith, from) in
          (found.0, subst (λ (k : ℕ). IsBlockRead decode (sections k) found.0) place (each (i - first) found.0 found.2))
      | inr past ↦ absurd (omega (arith, from, below, count, past.0))
    ]

pub stops : {A : Type 0} (decode now : Encode) (sections : ℕ → SectionRead) (section : SectionRead) (first at stop : ℕ) (blocks : List Block) (old start after : ℕ) (e : SlateDBError) →
    now ≡ decode → start ≡ old → section ≡ sections at → first ≤ at → at < stop → length blocks ≡ at - first → AreBlocksRead decode sections first blocks →
    A ⊎ FailsDecoding start after section e ⊎ RefusesBlock now section e → A ⊎ FailsBlocks decode sections first stop old after e ⊎ RefusesBlocks decode sections first stop e
stops decode now sections section first at stop blocks old start after e same still there from below count each (inl other) = inl other
stops decode now sections section first at stop blocks old start after e same still there from below count each (inr (inl fails)) =
    let counted = subst (λ (n : ℕ). FailsDecoding n after section e) still fails in
    let answered = subst (λ (s : SectionRead). FailsDecoding old after s e) there counted in
    inr (inl (at, from, below, answered, λ i start stop. before decode sections first at i blocks count each start stop))
stops decode now sections section first at stop blocks old start after e same still there from below count each (inr (inr refuses)) =
    let decoded = subst (λ (d : Encode). RefusesBlock d section e) same refuses in
    let answered = subst (λ (s : SectionRead). RefusesBlock decode s e) there decoded in
    inr (inr (at, from, below, answered, λ i start stop. before decode sections first at i blocks count each start stop))

-- the section of a block, where it stands
pub there : (table : SsTableHandle) (entries : List (ℕ × List ℕ)) (first : ℕ) (answer : Option (List ℕ)) (at : ℕ) (place : SectionPlace) (start : ℕ) (section : Option (List ℕ)) →
    place ≡ record { version = table.format_version; id = table.id; kind = block_kind; offset = start } → start ≡ block_start table.info.filter_offset entries at →
    section ≡ block_answer table.info.filter_offset entries first answer at → read_at place section ≡ of_blocks table entries first answer at
there table entries first answer at place start section is from found =
    ap (λ (p : SectionPlace). read_at p section) is
    ∙ (λ i. section_read table.format_version table.id.0 block_kind (from i) (found i))

pub row_read : (objects : Option Objects) (before after : Option (List Act)) (path : List ℕ) (start size first whole : ℕ) (answer : Option (List ℕ)) (means : Option (List ℕ) → Type 0) →
    start ≡ first → size ≡ whole → IsRead objects before after path start size answer → means answer → Reads objects before after path first whole means
row_read objects before after path start size first whole answer means from upto read is =
    (answer, subst (λ (n : ℕ). IsRead objects before after path first n answer) upto (subst (λ (s : ℕ). IsRead objects before after path s size answer) from read), is)

pub row_refused : (objects : Option Objects) (before after : Option (List Act)) (path : List ℕ) (start size first whole a b : ℕ) (answer : Option (List ℕ)) (fails means : Option (List ℕ) → Type 0) (e : SlateDBError) →
    start ≡ first → size ≡ whole → IsRead objects before after path start size answer → (e ≡ OutOfMemory) ⊎ fails answer ⊎ means answer →
    IsStoreFault a b e ⊎ Reads objects before after path first whole fails ⊎ Reads objects before after path first whole means
row_refused objects before after path start size first whole a b answer fails means e from upto read (inl memory) = inl (inl memory)
row_refused objects before after path start size first whole a b answer fails means e from upto read (inr (inl f)) = inr (inl (row_read objects before after path start size first whole answer fails from upto read f))
row_refused objects before after path start size first whole a b answer fails means e from upto read (inr (inr m)) = inr (inr (row_read objects before after path start size first whole answer means from upto read m))
