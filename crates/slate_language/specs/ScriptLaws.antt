-- Laws of lines, of replies, of the words of a run, and of the parts that words can name.
use Rattle.std.specs.Prelude.{◌≡◌, ◌≤◌, ℕ, not, ◌==◌, List, [], ◌∷◌, ◌++◌, Some, IsTrue, None, Bool, false, ◌&&◌, filter, flat_map, Option}
use Rattle.std.specs.List.{list_all}
use Rattle.slate_types.specs.Fold.{IsLawful, KeepsShort}
use Rattle.slate_types.specs.Lawful.{IsLawfulLengths, IsLawfulTransform, IsWithinTarget}
use Rattle.slate_store.specs.Lines.{lines_of}
use Rattle.slate_filter.specs.Policy.{Policy}
use Rattle.slate_txn.specs.declared.line.Line.{Line}
use Rattle.slate_txn.specs.State.{Rules, opening}
use Rattle.slate_txn.specs.Step.{answers}
use Rattle.slate_txn.specs.Laws.{is_storage, other_answers}
use Rattle.slate_language.specs.declared.extractors.NamedExtractor.{NamedExtractor}
use Rattle.slate_language.specs.declared.operators.NamedOperator.{NamedOperator}
use Rattle.slate_language.specs.Segments.{lengths_of}
use Rattle.slate_language.specs.Parts.{concat, greater, named, xored}
use Rattle.slate_types.specs.Keys.{AreBytes}
use Rattle.slate_language.specs.Text.{shown_bytes}
use Rattle.slate_language.specs.Grammar.{IsBytes, IsLine}
use Rattle.slate_language.specs.Parse.{parse}
use Rattle.slate_language.specs.Generate.{generate, summary}
use Rattle.slate_language.specs.Tally.{nothing_from, tallied, tally_text}
use Rattle.slate_language.specs.Words.{max_rounds, read_generated, read_words, used}
use Rattle.slate_language.specs.declared.words.Generated.{Generated}
use Rattle.slate_language.specs.Replies.{replies, is_silent, meanings, reply_line, replies, IsWellFormed}

-- What the grammar has is read, with its meaning.
abbrev pub ReadsTheGrammar : Type 0
ReadsTheGrammar = (bytes : List ℕ) (line : Line) → IsLine bytes line → parse bytes ≡ Some line

-- What is read is in the grammar.
abbrev pub ReadsNothingElse : Type 0
ReadsNothingElse = (bytes : List ℕ) (line : Line) → parse bytes ≡ Some line → IsLine bytes line

-- What bytes are shown as spells them.
abbrev pub ReadsWhatIsShown : Type 0
ReadsWhatIsShown = (v : List ℕ) → AreBytes v → IsBytes (shown_bytes v) v

-- No bytes have two meanings.
abbrev pub HasOneMeaning : Type 0
HasOneMeaning = (bytes : List ℕ) (line other : Line) → IsLine bytes line → IsLine bytes other → line ≡ other

-- An empty script has no replies.
abbrev pub EmptyIsSilent : Type 0
EmptyIsSilent = (r : Rules) → replies r [] ≡ []

-- A line with its end, before more bytes, is the first line.
abbrev pub CutsALine : Type 0
CutsALine = (line rest : List ℕ) → IsTrue (list_all (λ b. not (b == 10)) line) → lines_of (line ++ (10 ∷ rest)) ≡ line ∷ lines_of rest

-- The operator that appends is lawful.
abbrev pub ConcatIsLawful : Type 0
ConcatIsLawful = (k : List ℕ) → IsLawful (concat k) × KeepsShort (concat k)

-- The operator that keeps the greater value is lawful.
abbrev pub GreaterIsLawful : Type 0
GreaterIsLawful = (k : List ℕ) → IsLawful (greater k) × KeepsShort (greater k)

-- Each operator that a word can name is lawful.
abbrev pub NamedIsLawful : Type 0
NamedIsLawful = (o : NamedOperator) (k : List ℕ) → IsLawful (named o k) × KeepsShort (named o k)

-- Each extractor that a word can name is lawful.
abbrev pub NamedExtractorIsLawful : Type 0
NamedExtractorIsLawful = (x : NamedExtractor) → IsWithinTarget (lengths_of x) × IsLawfulLengths (lengths_of x)

-- The transformer that changes each byte by one number is lawful.
abbrev pub XorIsLawful : Type 0
XorIsLawful = (n : ℕ) → IsLawfulTransform (xored n) (xored n)

-- a freeze or a flush
abbrev pub stores : Option Line → Bool
stores None = false
stores (Some line) = is_storage line

abbrev pub is_storing : List ℕ → Bool
is_storing l = not (is_silent l) && stores (parse l)

-- the lines, each with its LF
abbrev pub joined : List (List ℕ) → List ℕ
joined [] = []
joined (l ∷ ls) = l ++ (10 ∷ joined ls)

-- the script without them, and the replies to the other lines
abbrev pub without_storing : List ℕ → List ℕ
without_storing script = joined (filter (λ l. not (is_storing l)) (lines_of script))

abbrev pub other_replies : Rules → List ℕ → List ℕ
other_replies r script = flat_map reply_line (other_answers r opening (meanings (lines_of script)))

-- Taking the lines that freeze or flush out of a script takes out their replies, and changes no other.
abbrev pub StoringIsSilent : Type 0
StoringIsSilent = (r : Rules) (script : List ℕ) → replies r (without_storing script) ≡ other_replies r script

-- Two words side by side may change places.
abbrev pub WordsInAnyOrder : Type 0
WordsInAnyOrder = (handed before after : List (List ℕ)) (v w : List ℕ) →
    read_words handed (before ++ (v ∷ w ∷ after)) ≡ read_words handed (before ++ (w ∷ v ∷ after))

-- So they may for the policies that are used.
abbrev pub FiltersInAnyOrder : Type 0
FiltersInAnyOrder = (before after : List (List ℕ)) (v w : List ℕ) (policies : List Policy) →
    used (before ++ (v ∷ w ∷ after)) policies ≡ used (before ++ (w ∷ v ∷ after)) policies

-- No words say both that a run makes its script and that it reads one.
abbrev pub WordsNameOneScript : Type 0
WordsNameOneScript = (handed ws : List (List ℕ)) (g : Generated) →
    read_generated handed ws ≡ Some g → read_words handed ws ≡ None

-- A script that a run makes for itself is well formed.
abbrev pub GeneratedIsWellFormed : Type 0
GeneratedIsWellFormed = (n s : ℕ) → n ≤ max_rounds → IsWellFormed (generate n s)

-- What is counted of the replies to a well-formed script is its summary.
abbrev pub TallyIsSummary : Type 0
TallyIsSummary = (r : Rules) (script : List ℕ) → IsWellFormed script →
    tally_text (tallied (nothing_from r.start_seq) (answers r opening (meanings (lines_of script)))) ≡ summary r script
