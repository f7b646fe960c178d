-- Tables that several workers build.
--     IsDoneSoFar encode layout jobs left tables      these tables were built of the first jobs, and the others are left
use Rattle.std.proofs.Common.{◌≡◌, ℕ, ◌+◌, ◌-◌, ◌<◌, ◌≤◌, ◌⊎◌, inl, inr, List, [], ◌∷◌, ◌++◌, length, length-append, map, flat_map, refl, sym, ap, subst, ◌∙◌, arith, append-nil, append_assoc, take, drop, zero, suc, get_or, set, below_more, get_or-set_other, get_or-set_same}
use Rattle.std.proofs.Math.Seq.{take-length}
use Rattle.std.proofs.lemmas.List.{drop_all, get_or_default, take-append-drop}
use Rattle.std.proofs.lemmas.Grind.{flat_map-append}
use Rattle.std.specs.List.{AllByRecursion, AllZip}
use Rattle.std.specs.Prelude.{IfErr, IfOk, Result, Ok, Err}
use Rattle.slate_types.specs.declared.error.SlateDBError.{SlateDBError}
use Rattle.slate_types.specs.declared.error.SlateDBError.TheVariants.{BlockTransformError, OutOfMemory}
use Rattle.slate_types.specs.Faults.{Rose}
use Rattle.slate_mem.specs.KeyTests.{Segments}
use Rattle.slate_table.specs.InfoReading.{seen_info}
use Rattle.slate_table.specs.Parts.{Encode}
use Rattle.slate_table.specs.SectionReading.{IsTransformFault}
use Rattle.slate_table.specs.Table.{AreInOrder, IsBuilt}
use Rattle.slate_table.specs.TableEnd.{EncodedTable, HasInfo}
use Rattle.slate_db.specs.Cut.{AreCut}
use Rattle.slate_db.specs.Flushed.{IsTooLarge, Layout}
use Rattle.slate_db.specs.Layers.{FitsMemory}
use Rattle.slate_db.specs.Model.{Rows}
use Rattle.slate_db.specs.StoredParts.{CanBuild, IsPlace}
use Rattle.slate_types.proofs.Lists.{AllByRecursion_behind, AllByRecursion_front}
use Rattle.slate_shared.specs.declared.encode.Job.{Job}
use Rattle.slate_shared.specs.Encoded.{AreEncodedFrom, AreOfOneEncoding, AreTablesOfPlan, IsEncodedAt, IsUnbuilt, RoseInOne, one_encoding}
use Rattle.slate_shared.specs.Jobs.{AreJobsAt, CanMake, IsJobDone, IsOutcome, IsStopped, in_front, joined_of, tables_made}

-- ---- lists by pairs

pub zip_append : {A B : Type 0} (R : A → B → Type 0) (xs xs2 : List A) (ys ys2 : List B) → AllZip R xs ys → AllZip R xs2 ys2 → AllZip R (xs ++ xs2) (ys ++ ys2)
zip_append R [] xs2 [] ys2 h k = k
zip_append R [] xs2 (y ∷ ys) ys2 h k = absurd h
zip_append R (x ∷ xs) xs2 [] ys2 h k = absurd h
zip_append R (x ∷ xs) xs2 (y ∷ ys) ys2 h k = (h.0, zip_append R xs xs2 ys ys2 h.1 k)

-- ---- one job after another

pub record IsDoneSoFar (encode : Encode) (layout : Layout) (jobs left : List Job) (tables : List EncodedTable) : Type 0 where
  pub done : List Job
  pub split : done ++ left ≡ jobs
  pub made : AllZip (IsJobDone encode layout) done tables

pub none_done : (encode : Encode) (layout : Layout) (jobs left : List Job) (tables : List EncodedTable) → left ≡ jobs → tables ≡ [] → IsDoneSoFar encode layout jobs left tables
none_done encode layout jobs left tables all none = subst (IsDoneSoFar encode layout jobs left) (sym none) (record { done = []; split = all; made = tt })

pub one_done : (encode : Encode) (layout : Layout) (jobs left rest : List Job) (job : Job) (tables more : List EncodedTable) (t : EncodedTable) → IsDoneSoFar encode layout jobs left tables → left ≡ job ∷ rest → IsJobDone encode layout job t → more ≡ tables ++ (t ∷ []) →
    IsDoneSoFar encode layout jobs rest more
one_done encode layout jobs left rest job tables more t far next made is = subst (IsDoneSoFar encode layout jobs rest) (sym is) (record {
  done = far.done ++ (job ∷ []);
  split = append_assoc far.done (job ∷ []) rest ∙ ap (λ js. far.done ++ js) (sym next) ∙ far.split;
  made = zip_append (IsJobDone encode layout) far.done (job ∷ []) tables (t ∷ []) far.made (made, tt);
})

pub all_done : (encode : Encode) (layout : Layout) (jobs left : List Job) (tables : List EncodedTable) → IsDoneSoFar encode layout jobs left tables → left ≡ [] → AllZip (IsJobDone encode layout) jobs tables
all_done encode layout jobs left tables far none = subst (λ (js : List Job). AllZip (IsJobDone encode layout) js tables) (sym (append-nil far.done) ∙ ap (λ js. far.done ++ js) (sym none) ∙ far.split) far.made

pub stopped_at : (encode : Encode) (layout : Layout) (raised : Type 0) (jobs left rest : List Job) (job : Job) (tables : List EncodedTable) (e : SlateDBError) → IsDoneSoFar encode layout jobs left tables → left ≡ job ∷ rest →
    ((e ≡ BlockTransformError) × raised) ⊎ IsTooLarge layout job.rows.items e → IsStopped encode layout raised jobs e
stopped_at encode layout raised jobs left rest job tables e far next cause = record {
  done = far.done;
  job = job;
  left = rest;
  split = ap (λ js. far.done ++ js) (sym next) ∙ far.split;
  tables = tables;
  made = far.made;
  cause = cause;
}

-- by an encoding that is the first
pub job_done : (first encode : Encode) (layout : Layout) (job : Job) (t : EncodedTable) → encode ≡ first → t.id.0 ≡ job.id.0 → IsBuilt encode layout.policies layout.min_filter_keys layout.block_size layout.version job.id.0 t.bytes job.rows.items → t.version ≡ layout.version →
    HasInfo t.bytes layout.version job.id.0 (seen_info t.info) → IsJobDone first layout job t
job_done first encode layout job t same id built version info = record {
  id = id;
  built = subst (λ (e : Encode). IsBuilt e layout.policies layout.min_filter_keys layout.block_size layout.version job.id.0 t.bytes job.rows.items) same built;
  version = version;
  info = subst (λ (n : ℕ). HasInfo t.bytes layout.version n (seen_info t.info)) (sym id) info;
}

-- the next job's rows make a table
pub next_makes : (encode : Encode) (layout : Layout) (jobs left rest : List Job) (job : Job) (tables : List EncodedTable) → IsDoneSoFar encode layout jobs left tables → left ≡ job ∷ rest → AllByRecursion CanMake jobs → CanMake job
next_makes encode layout jobs left rest job tables far next each =
    (AllByRecursion_behind CanMake far.done (job ∷ rest) (subst (AllByRecursion CanMake) (sym (ap (λ js. far.done ++ js) (sym next) ∙ far.split)) each)).0

-- ---- several benches, one behind the other

pub weaker_cause : (layout : Layout) (A B : Type 0) (rows : Rows) (e : SlateDBError) → (A → B) → ((e ≡ BlockTransformError) × A) ⊎ IsTooLarge layout rows e → ((e ≡ BlockTransformError) × B) ⊎ IsTooLarge layout rows e
weaker_cause layout A B rows e f (inl h) = inl (h.0, f h.1)
weaker_cause layout A B rows e f (inr h) = inr h

stopped_first : (encode : Encode) (layout : Layout) (A B : Type 0) (jobs more : List Job) (e : SlateDBError) → (A → B) → IsStopped encode layout A jobs e → IsStopped encode layout B (jobs ++ more) e
stopped_first encode layout A B jobs more e f h = record {
  done = h.done;
  job = h.job;
  left = h.left ++ more;
  split = sym (append_assoc h.done (h.job ∷ h.left) more) ∙ ap (λ js. js ++ more) h.split;
  tables = h.tables;
  made = h.made;
  cause = weaker_cause layout A B h.job.rows.items e f h.cause;
}

stopped_behind : (encode : Encode) (layout : Layout) (A B : Type 0) (jobs more : List Job) (tables : List EncodedTable) (e : SlateDBError) → (A → B) → AllZip (IsJobDone encode layout) jobs tables → IsStopped encode layout A more e → IsStopped encode layout B (jobs ++ more) e
stopped_behind encode layout A B jobs more tables e f all h = record {
  done = jobs ++ h.done;
  job = h.job;
  left = h.left;
  split = append_assoc jobs h.done (h.job ∷ h.left) ∙ ap (λ js. jobs ++ js) h.split;
  tables = tables ++ h.tables;
  made = zip_append (IsJobDone encode layout) jobs h.done tables h.tables all h.made;
  cause = weaker_cause layout A B h.job.rows.items e f h.cause;
}

pub outcome_join : (encode : Encode) (layout : Layout) (A B C : Type 0) (jobs more : List Job) (one : Result (List EncodedTable) SlateDBError) (others : List (Result (List EncodedTable) SlateDBError)) → (A → C) → (B → C) →
    IsOutcome encode layout A jobs one → IsOutcome encode layout B more (joined_of others) → IsOutcome encode layout C (jobs ++ more) (joined_of (one ∷ others))
outcome_join encode layout A B C jobs more (Err e) others f g (inl none) later = inl none
outcome_join encode layout A B C jobs more (Err e) others f g (inr stopped) later = inr (stopped_first encode layout A C jobs more e f stopped)
outcome_join encode layout A B C jobs more (Ok tables) others f g all later = by (joined_of others) later
  where
    by : (r : Result (List EncodedTable) SlateDBError) → IsOutcome encode layout B more r → IsOutcome encode layout C (jobs ++ more) (in_front tables r)
    by (Ok rest) h = zip_append (IsJobDone encode layout) jobs more tables rest all h
    by (Err e) (inl none) = inl none
    by (Err e) (inr stopped) = inr (stopped_behind encode layout B C jobs more tables e g all stopped)

-- what one bench's run says, by what is seen of a bench
pub record HasRun {B : Type 0} (layout : Layout) (jobs_of : B → List Job) (made_of : B → Result (List EncodedTable) SlateDBError) (encode_of decode_of : B → Encode) (count_of : B → ℕ) (x y : B) : Type 0 where
  pub outcome : IsOutcome (encode_of x) layout (Rose (count_of x) (count_of y)) (jobs_of x) (made_of y)
  pub encoded : encode_of y ≡ encode_of x
  pub decoded : decode_of y ≡ decode_of x
  pub later : count_of x ≤ count_of y

-- and of all of them
record HaveRun {B : Type 0} (layout : Layout) (jobs_of : B → List Job) (made_of : B → Result (List EncodedTable) SlateDBError) (encode_of decode_of : B → Encode) (count_of : B → ℕ) (encode : Encode) (xs ys : List B) : Type 0 where
  pub outcome : IsOutcome encode layout (RoseInOne (map count_of xs) (map count_of ys)) (flat_map jobs_of xs) (joined_of (map made_of ys))
  pub encoded : map encode_of ys ≡ map encode_of xs
  pub decoded : map decode_of ys ≡ map decode_of xs
  pub later : AllZip (λ (b : ℕ) (n : ℕ). b ≤ n) (map count_of xs) (map count_of ys)

benches_join : {B : Type 0} (layout : Layout) (jobs_of : B → List Job) (made_of : B → Result (List EncodedTable) SlateDBError) (encode_of decode_of : B → Encode) (count_of : B → ℕ) (encode : Encode) (xs ys : List B) →
    AllZip (HasRun layout jobs_of made_of encode_of decode_of count_of) xs ys → AllByRecursion (λ e. e ≡ encode) (map encode_of xs) → HaveRun layout jobs_of made_of encode_of decode_of count_of encode xs ys
benches_join layout jobs_of made_of encode_of decode_of count_of encode [] [] h same = record { outcome = tt; encoded = refl; decoded = refl; later = tt }
benches_join layout jobs_of made_of encode_of decode_of count_of encode [] (y ∷ ys) h same = absurd h
benches_join layout jobs_of made_of encode_of decode_of count_of encode (x ∷ xs) [] h same = absurd h
benches_join layout jobs_of made_of encode_of decode_of count_of encode (x ∷ xs) (y ∷ ys) h same =
    let rest = benches_join layout jobs_of made_of encode_of decode_of count_of encode xs ys h.1 same.1 in
    record {
      outcome = outcome_join encode layout (Rose (count_of x) (count_of y)) (RoseInOne (map count_of xs) (map count_of ys)) _ (jobs_of x) (flat_map jobs_of xs) (made_of y) (map made_of ys) (λ h. inl h) (λ h. inr h)
          (subst (λ (e : Encode). IsOutcome e layout (Rose (count_of x) (count_of y)) (jobs_of x) (made_of y)) same.0 h.0.outcome) rest.outcome;
      encoded = λ i. h.0.encoded i ∷ rest.encoded i;
      decoded = λ i. h.0.decoded i ∷ rest.decoded i;
      later = (h.0.later, rest.later);
    }

pub all_of_one : (encodes : List Encode) → AreOfOneEncoding encodes → AllByRecursion (λ e. e ≡ one_encoding encodes) encodes
all_of_one [] h = absurd h
all_of_one (encode ∷ encodes) h = (refl, h)

pub some_workers : {W : Type 0} (workers : List W) (encode_of : W → Encode) → AreOfOneEncoding (map encode_of workers) → 0 < length workers
some_workers [] encode_of h = absurd h
some_workers (w ∷ workers) encode_of h = omega arith

pub one_longer : {X : Type 0} (xs ys : List X) (x : X) → ys ≡ xs ++ (x ∷ []) → length ys ≡ length xs + 1
one_longer xs ys x same = ap length same ∙ length-append xs (x ∷ [])

pub never_fell : (ns : List ℕ) → AllZip (λ (b : ℕ) (n : ℕ). b ≤ n) ns ns
never_fell [] = tt
never_fell (n ∷ ns) = (omega arith, never_fell ns)

-- ---- a job for each table

pub jobs_more : (number place : ℕ) (parts : List Rows) (jobs : List Job) (rows : Rows) (job : Job) → AreJobsAt number place parts jobs → IsPlace job.id number (place + length jobs) → job.rows.items ≡ rows → AreJobsAt number place (parts ++ (rows ∷ [])) (jobs ++ (job ∷ []))
jobs_more number place [] [] rows job h at is = ((subst (IsPlace job.id number) (let z : place + 0 ≡ place = omega arith in z) at, is), tt)
jobs_more number place (p ∷ parts) (j ∷ jobs) rows job h at is =
    (h.0, jobs_more number (place + 1) parts jobs rows job h.1 (subst (IsPlace job.id number) (let z : place + length (j ∷ jobs) ≡ (place + 1) + length jobs = omega arith in z) at) is)
jobs_more number place [] (j ∷ jobs) rows job h at is = absurd h
jobs_more number place (p ∷ parts) [] rows job h at is = absurd h

pub record AreJobsSoFar (number : ℕ) (parts left : List Rows) (jobs : List Job) : Type 0 where
  pub done : List Rows
  pub split : done ++ left ≡ parts
  pub numbered : AreJobsAt number 0 done jobs

pub no_jobs_yet : (number : ℕ) (parts left : List Rows) (jobs : List Job) → left ≡ parts → jobs ≡ [] → AreJobsSoFar number parts left jobs
no_jobs_yet number parts left jobs all none = subst (AreJobsSoFar number parts left) (sym none) (record { done = []; split = all; numbered = tt })

pub one_job_more : (number : ℕ) (parts left rest : List Rows) (rows : Rows) (jobs more : List Job) (job : Job) → AreJobsSoFar number parts left jobs → left ≡ rows ∷ rest → more ≡ jobs ++ (job ∷ []) → IsPlace job.id number (length jobs) → job.rows.items ≡ rows → AreJobsSoFar number parts rest more
one_job_more number parts left rest rows jobs more job far next more_is at is = subst (AreJobsSoFar number parts rest) (sym more_is) (record {
  done = far.done ++ (rows ∷ []);
  split = append_assoc far.done (rows ∷ []) rest ∙ ap (λ xs. far.done ++ xs) (sym next) ∙ far.split;
  numbered = jobs_more number 0 far.done jobs rows job far.numbered (subst (IsPlace job.id number) (let z : length jobs ≡ 0 + length jobs = omega arith in z) at) is;
})

pub all_jobs : (number : ℕ) (parts left : List Rows) (jobs : List Job) → AreJobsSoFar number parts left jobs → left ≡ [] → AreJobsAt number 0 parts jobs
all_jobs number parts left jobs far none = subst (λ (xs : List Rows). AreJobsAt number 0 xs jobs) (sym (append-nil far.done) ∙ ap (λ xs. far.done ++ xs) (sym none) ∙ far.split) far.numbered

pub jobs_make : (number place : ℕ) (parts : List Rows) (jobs : List Job) → AreJobsAt number place parts jobs → AllByRecursion CanBuild parts → AllByRecursion CanMake jobs
jobs_make number place [] [] h each = tt
jobs_make number place (p ∷ parts) (j ∷ jobs) h each = (subst CanBuild (sym h.0.1) each.0, jobs_make number (place + 1) parts jobs h.1 each.1)
jobs_make number place [] (j ∷ jobs) h each = absurd h
jobs_make number place (p ∷ parts) [] h each = absurd h

-- ---- the tables of the plan

table_at : (encode : Encode) (layout : Layout) (number place : ℕ) (rows : Rows) (job : Job) (t : EncodedTable) → IsPlace job.id number place → job.rows.items ≡ rows → IsJobDone encode layout job t → IsEncodedAt encode layout number place rows t
table_at encode layout number place rows job t at is made = record {
  id = made.id ∙ at.is;
  fits = at.fits;
  built = subst (λ (id : ℕ). IsBuilt encode layout.policies layout.min_filter_keys layout.block_size layout.version id t.bytes rows) (sym made.id)
      (subst (IsBuilt encode layout.policies layout.min_filter_keys layout.block_size layout.version job.id.0 t.bytes) is made.built);
  version = made.version;
  info = made.info;
}

tables_at : (encode : Encode) (layout : Layout) (number place : ℕ) (parts : List Rows) (jobs : List Job) (tables : List EncodedTable) → AreJobsAt number place parts jobs → AllZip (IsJobDone encode layout) jobs tables → AreEncodedFrom encode layout number place parts tables
tables_at encode layout number place [] [] [] h made = tt
tables_at encode layout number place (p ∷ parts) (j ∷ jobs) (t ∷ tables) h made = (table_at encode layout number place p j t h.0.0 h.0.1 made.0, tables_at encode layout number (place + 1) parts jobs tables h.1 made.1)
tables_at encode layout number place [] [] (t ∷ tables) h made = absurd made
tables_at encode layout number place [] (j ∷ jobs) tables h made = absurd h
tables_at encode layout number place (p ∷ parts) [] tables h made = absurd h
tables_at encode layout number place (p ∷ parts) (j ∷ jobs) [] h made = absurd made

-- the rows of the jobs before one, its own, and the others
record IsAmong (number place : ℕ) (parts : List Rows) (done : List Job) (job : Job) : Type 0 where
  pub before : List Rows
  pub table : Rows
  pub behind : List Rows
  pub split : before ++ (table ∷ behind) ≡ parts
  pub earlier : AreJobsAt number place before done
  pub is : job.rows.items ≡ table

among : (number place : ℕ) (parts : List Rows) (done left : List Job) (job : Job) → AreJobsAt number place parts (done ++ (job ∷ left)) → IsAmong number place parts done job
among number place [] [] left job h = absurd h
among number place [] (d ∷ done) left job h = absurd h
among number place (p ∷ parts) [] left job h = record { before = []; table = p; behind = parts; split = refl; earlier = tt; is = h.0.1 }
among number place (p ∷ parts) (d ∷ done) left job h =
    let later = among number (place + 1) parts done left job h.1 in
    record { before = p ∷ later.before; table = later.table; behind = later.behind; split = ap (λ ps. p ∷ ps) later.split; earlier = (h.0, later.earlier); is = later.is }

plan_made : (encode : Encode) (layout : Layout) (number : ℕ) (rows : Rows) (parts : List Rows) (jobs : List Job) (tables : List EncodedTable) → AreCut layout.segments layout.table_bytes rows parts → AreJobsAt number 0 parts jobs → AllZip (IsJobDone encode layout) jobs tables →
    AreTablesOfPlan encode layout number rows tables
plan_made encode layout number rows parts jobs tables cut at made = record { parts = parts; cut = cut; made = tables_at encode layout number 0 parts jobs tables at made }

plan_stopped : (encode : Encode) (layout : Layout) (raised : Type 0) (number : ℕ) (rows : Rows) (parts : List Rows) (jobs : List Job) (e : SlateDBError) → AreCut layout.segments layout.table_bytes rows parts → AreJobsAt number 0 parts jobs → IsStopped encode layout raised jobs e →
    IsUnbuilt encode layout raised number rows e
plan_stopped encode layout raised number rows parts jobs e cut at h =
    let found = among number 0 parts h.done h.left h.job (subst (AreJobsAt number 0 parts) (sym h.split) at) in
    record {
      before = found.before;
      table = found.table;
      behind = found.behind;
      cut = subst (AreCut layout.segments layout.table_bytes rows) (sym found.split) cut;
      tables = h.tables;
      built = tables_at encode layout number 0 found.before h.done h.tables found.earlier h.made;
      cause = by found.table h.cause found.is;
    }
  where
    by : (table : Rows) → ((e ≡ BlockTransformError) × raised) ⊎ IsTooLarge layout h.job.rows.items e → h.job.rows.items ≡ table → ((e ≡ BlockTransformError) × raised) ⊎ IsTooLarge layout table e
    by table (inl c) is = inl c
    by table (inr c) is = inr (subst (λ (rs : Rows). IsTooLarge layout rs e) is c)

-- ---- lists by places

pub map_at_places : {A B X : Type 0} (f : A → X) (g : B → X) (xs : List A) (ys : List B) → length xs ≡ length ys → ((j : ℕ) (d : A) (e : B) → j < length xs → f (get_or xs j d) ≡ g (get_or ys j e)) → map f xs ≡ map g ys
map_at_places f g [] [] same h = refl
map_at_places f g [] (y ∷ ys) same h = absurd (omega (arith, same))
map_at_places f g (x ∷ xs) [] same h = absurd (omega (arith, same))
map_at_places f g (x ∷ xs) (y ∷ ys) same h =
    let first : f x ≡ g y = h zero x y (omega arith) in
    let later : map f xs ≡ map g ys = map_at_places f g xs ys (omega (arith, same)) (λ j d e lt. h (suc j) d e (omega (arith, lt))) in
    λ i. first i ∷ later i

pub zip_at_places : {A : Type 0} (R : A → A → Type 0) (xs ys : List A) → length xs ≡ length ys → ((j : ℕ) (d : A) → j < length xs → R (get_or xs j d) (get_or ys j d)) → AllZip R xs ys
zip_at_places R [] [] same h = tt
zip_at_places R [] (y ∷ ys) same h = absurd (omega (arith, same))
zip_at_places R (x ∷ xs) [] same h = absurd (omega (arith, same))
zip_at_places R (x ∷ xs) (y ∷ ys) same h = (h zero x (omega arith), zip_at_places R xs ys (omega (arith, same)) (λ j d lt. h (suc j) d (omega (arith, lt))))

-- of what is at a place of two lists, one part goes to the other list, up to this place
pub record AreSwapped {B W X : Type 0} (b_of : B → X) (w_of : W → X) (benches benches0 : List B) (workers workers0 : List W) (k : ℕ) : Type 0 where
  pub bench_ahead : (j : ℕ) (d : B) → k ≤ j → get_or benches j d ≡ get_or benches0 j d
  pub worker_ahead : (j : ℕ) (e : W) → k ≤ j → get_or workers j e ≡ get_or workers0 j e
  pub lent : (j : ℕ) (d : B) (e : W) → j < k → b_of (get_or benches j d) ≡ w_of (get_or workers0 j e)
  pub given : (j : ℕ) (d : B) (e : W) → j < k → w_of (get_or workers j e) ≡ b_of (get_or benches0 j d)

pub none_swapped : {B W X : Type 0} (b_of : B → X) (w_of : W → X) (benches : List B) (workers : List W) → AreSwapped b_of w_of benches benches workers workers 0
none_swapped b_of w_of benches workers = record {
  bench_ahead = λ j d le. refl;
  worker_ahead = λ j e le. refl;
  lent = λ j d e lt. absurd (omega (arith, lt));
  given = λ j d e lt. absurd (omega (arith, lt));
}

pub one_swapped : {B W X : Type 0} (b_of : B → X) (w_of : W → X) (benches benches0 : List B) (workers workers0 : List W) (k : ℕ) (y : B) (v : W) (d0 : B) (e0 : W) → AreSwapped b_of w_of benches benches0 workers workers0 k → k < length benches → k < length workers →
    b_of y ≡ w_of (get_or workers k e0) → w_of v ≡ b_of (get_or benches k d0) → AreSwapped b_of w_of (set benches k y) benches0 (set workers k v) workers0 (k + 1)
one_swapped b_of w_of benches benches0 workers workers0 k y v d0 e0 was b_in w_in to_bench to_worker = record {
  bench_ahead = λ j d le. get_or-set_other benches k j y d (λ e. omega (arith, e, le)) ∙ was.bench_ahead j d (omega (arith, le));
  worker_ahead = λ j e le. get_or-set_other workers k j v e (λ s. omega (arith, s, le)) ∙ was.worker_ahead j e (omega (arith, le));
  lent = λ j d e lt. below_more (λ i. b_of (get_or (set benches k y) i d) ≡ w_of (get_or workers0 i e)) k
      (λ i below. ap b_of (get_or-set_other benches k i y d (λ s. omega (arith, s, below))) ∙ was.lent i d e below)
      (ap b_of (get_or-set_same benches k y d b_in) ∙ to_bench ∙ ap w_of (get_or_default workers k e0 e w_in ∙ was.worker_ahead k e (omega arith)))
      j lt;
  given = λ j d e lt. below_more (λ i. w_of (get_or (set workers k v) i e) ≡ b_of (get_or benches0 i d)) k
      (λ i below. ap w_of (get_or-set_other workers k i v e (λ s. omega (arith, s, below))) ∙ was.given i d e below)
      (ap w_of (get_or-set_same workers k v e w_in) ∙ to_worker ∙ ap b_of (get_or_default benches k d0 d b_in ∙ was.bench_ahead k d (omega arith)))
      j lt;
}

-- ---- results, one behind the other

pub in_front_none : (r : Result (List EncodedTable) SlateDBError) → in_front [] r ≡ r
in_front_none (Ok tables) = refl
in_front_none (Err e) = refl

pub in_front_both : (xs ys : List EncodedTable) (r : Result (List EncodedTable) SlateDBError) → in_front (xs ++ ys) r ≡ in_front xs (in_front ys r)
in_front_both xs ys (Ok tables) = ap Ok (append_assoc xs ys tables)
in_front_both xs ys (Err e) = refl

-- ---- the work of all benches, with the workers' transformers

map_map : {A B C : Type 0} (f : B → C) (g : A → B) (xs : List A) → map (λ x. f (g x)) xs ≡ map f (map g xs)
map_map f g [] = refl
map_map f g (x ∷ xs) = ap (λ l. f (g x) ∷ l) (map_map f g xs)

flat_map_map : {A B C : Type 0} (f : B → List C) (g : A → B) (xs : List A) → flat_map (λ x. f (g x)) xs ≡ flat_map f (map g xs)
flat_map_map f g [] = refl
flat_map_map f g (x ∷ xs) = ap (λ l. f (g x) ++ l) (flat_map_map f g xs)

map_as : {A B X C : Type 0} (f : X → C) (g : A → X) (h : B → X) (xs : List A) (ys : List B) → map g xs ≡ map h ys → map (λ x. f (g x)) xs ≡ map (λ y. f (h y)) ys
map_as f g h xs ys same = map_map f g xs ∙ ap (map f) same ∙ sym (map_map f h ys)

pub record IsWorked {B W : Type 0} (layout : Layout) (jobs_of : B → List Job) (made_of : B → Result (List EncodedTable) SlateDBError) (encode_of decode_of : W → Encode) (count_of : W → ℕ) (benches after : List B) (workers workers2 : List W) : Type 0 where
  pub outcome : IsOutcome (one_encoding (map encode_of workers)) layout (RoseInOne (map count_of workers) (map count_of workers2)) (flat_map jobs_of benches) (joined_of (map made_of after))
  pub encoded : map encode_of workers2 ≡ map encode_of workers
  pub decoded : map decode_of workers2 ≡ map decode_of workers
  pub later : AllZip (λ (b : ℕ) (n : ℕ). b ≤ n) (map count_of workers) (map count_of workers2)

pub is_worked : {B W X J M : Type 0} (layout : Layout) (tr : B → X) (wt : W → X) (jobs : B → J) (items : J → List Job) (made : B → M) (out : M → Result (List EncodedTable) SlateDBError) (encode_of decode_of : X → Encode) (count_of : X → ℕ) (b0 b1 b2 b3 : List B) (w0 w2 : List W) →
    map tr b1 ≡ map wt w0 → map jobs b1 ≡ map jobs b0 → AllZip (HasRun layout (λ b. items (jobs b)) (λ b. out (made b)) (λ b. encode_of (tr b)) (λ b. decode_of (tr b)) (λ b. count_of (tr b))) b1 b2 → map wt w2 ≡ map tr b2 → map made b3 ≡ map made b2 →
    AreOfOneEncoding (map (λ w. encode_of (wt w)) w0) → IsWorked layout (λ b. items (jobs b)) (λ b. out (made b)) (λ w. encode_of (wt w)) (λ w. decode_of (wt w)) (λ w. count_of (wt w)) b0 b3 w0 w2
is_worked {B} {W} layout tr wt jobs items made out encode_of decode_of count_of b0 b1 b2 b3 w0 w2 lent same_jobs run given same_made one = record {
  outcome =
      (let s1 = subst (λ (bs : List ℕ). IsOutcome encode layout (RoseInOne bs (map bench_count b2)) (flat_map bench_jobs b1) (joined_of (map bench_made b2))) counts0 ran.outcome in
      let s2 = subst (λ (ns : List ℕ). IsOutcome encode layout (RoseInOne (map worker_count w0) ns) (flat_map bench_jobs b1) (joined_of (map bench_made b2))) counts2 s1 in
      let s3 = subst (λ (js : List Job). IsOutcome encode layout (RoseInOne (map worker_count w0) (map worker_count w2)) js (joined_of (map bench_made b2))) all_jobs_same s2 in
      subst (λ (rs : List (Result (List EncodedTable) SlateDBError)). IsOutcome encode layout (RoseInOne (map worker_count w0) (map worker_count w2)) (flat_map bench_jobs b0) (joined_of rs)) (sym (map_as out made made b3 b2 same_made)) s3);
  encoded = map_as encode_of wt tr w2 b2 given ∙ ran.encoded ∙ map_as encode_of tr wt b1 w0 lent;
  decoded = map_as decode_of wt tr w2 b2 given ∙ ran.decoded ∙ map_as decode_of tr wt b1 w0 lent;
  later = subst (λ (ns : List ℕ). AllZip (λ (b : ℕ) (n : ℕ). b ≤ n) (map worker_count w0) ns) counts2 (subst (λ (bs : List ℕ). AllZip (λ (b : ℕ) (n : ℕ). b ≤ n) bs (map bench_count b2)) counts0 ran.later);
}
  where
    bench_jobs : B → List Job
    bench_jobs = λ b. items (jobs b)

    bench_made : B → Result (List EncodedTable) SlateDBError
    bench_made = λ b. out (made b)

    bench_count : B → ℕ
    bench_count = λ b. count_of (tr b)

    worker_count : W → ℕ
    worker_count = λ w. count_of (wt w)

    encode : Encode
    encode = one_encoding (map (λ w. encode_of (wt w)) w0)

    counts0 : map bench_count b1 ≡ map worker_count w0
    counts0 = map_as count_of tr wt b1 w0 lent

    counts2 : map bench_count b2 ≡ map worker_count w2
    counts2 = sym (map_as count_of wt tr w2 b2 given)

    all_jobs_same : flat_map bench_jobs b1 ≡ flat_map bench_jobs b0
    all_jobs_same = flat_map_map items jobs b1 ∙ ap (flat_map items) same_jobs ∙ sym (flat_map_map items jobs b0)

    ran : HaveRun layout bench_jobs bench_made (λ b. encode_of (tr b)) (λ b. decode_of (tr b)) bench_count encode b1 b2
    ran = benches_join layout bench_jobs bench_made (λ b. encode_of (tr b)) (λ b. decode_of (tr b)) bench_count encode b1 b2 run
        (subst (AllByRecursion (λ e. e ≡ encode)) (sym (map_as encode_of tr wt b1 w0 lent)) (all_of_one (map (λ w. encode_of (wt w)) w0) one))

-- ---- a refusal of one table

pub refused_build : (encode : Encode) (layout : Layout) (jobs left rest : List Job) (job : Job) (tables : List EncodedTable) (e : SlateDBError) (first before after : ℕ) → IsDoneSoFar encode layout jobs left tables → left ≡ job ∷ rest → first ≤ before →
    IsTransformFault before after e ⊎ IsTooLarge layout job.rows.items e → (e ≡ OutOfMemory) ⊎ IsStopped encode layout (Rose first after) jobs e
refused_build encode layout jobs left rest job tables e first before after far next le (inl fault) = by fault
  where
    by : IsTransformFault before after e → (e ≡ OutOfMemory) ⊎ IsStopped encode layout (Rose first after) jobs e
    by (inl none) = inl none
    by (inr (is, rose)) = inr (stopped_at encode layout (Rose first after) jobs left rest job tables e far next (inl (is, (let r : Rose before after = rose in omega (arith, le, r)))))
refused_build encode layout jobs left rest job tables e first before after far next le (inr large) = inr (stopped_at encode layout (Rose first after) jobs left rest job tables e far next (inr large))

-- ---- of the plan, by the outcome of its jobs

pub plan_answered : (encode : Encode) (layout : Layout) (raised : Type 0) (number : ℕ) (rows : Rows) (parts : List Rows) (jobs all : List Job) (made : Result (List EncodedTable) SlateDBError) (tables : List EncodedTable) → made ≡ Ok tables → AreCut layout.segments layout.table_bytes rows parts →
    AreJobsAt number 0 parts jobs → all ≡ jobs → IsOutcome encode layout raised all made → AreTablesOfPlan encode layout number rows tables
plan_answered encode layout raised number rows parts jobs all made tables is cut at same outcome =
    plan_made encode layout number rows parts jobs tables cut at (subst (IsOutcome encode layout raised jobs) is (subst (λ (js : List Job). IsOutcome encode layout raised js made) same outcome))

pub plan_refused : (encode : Encode) (layout : Layout) (raised : Type 0) (number : ℕ) (rows : Rows) (parts : List Rows) (jobs all : List Job) (made : Result (List EncodedTable) SlateDBError) (e : SlateDBError) → (e ≡ OutOfMemory) ⊎ (made ≡ Err e) → AreCut layout.segments layout.table_bytes rows parts →
    AreJobsAt number 0 parts jobs → all ≡ jobs → IsOutcome encode layout raised all made → (e ≡ OutOfMemory) ⊎ IsUnbuilt encode layout raised number rows e
plan_refused encode layout raised number rows parts jobs all made e (inl none) cut at same outcome = inl none
plan_refused encode layout raised number rows parts jobs all made e (inr is) cut at same outcome = by (subst (IsOutcome encode layout raised jobs) is (subst (λ (js : List Job). IsOutcome encode layout raised js made) same outcome))
  where
    by : (e ≡ OutOfMemory) ⊎ IsStopped encode layout raised jobs e → (e ≡ OutOfMemory) ⊎ IsUnbuilt encode layout raised number rows e
    by (inl none) = inl none
    by (inr h) = inr (plan_stopped encode layout raised number rows parts jobs e cut at h)

pub ok_then : {V E : Type 0} (r : Result V E) (P Q : V → Type 0) → IfOk r P → ((v : V) → P v → Q v) → IfOk r Q
ok_then (Ok v) P Q h f = f v h
ok_then (Err e) P Q h f = tt

pub err_then : {V E : Type 0} (r : Result V E) (P Q : E → Type 0) → IfErr r P → ((e : E) → P e → Q e) → IfErr r Q
err_then (Ok v) P Q h f = tt
err_then (Err e) P Q h f = f e h

-- ---- what can be built of the plan's rows

order_front : (xs ys : Rows) → AreInOrder (xs ++ ys) → AreInOrder xs
order_front [] ys h = tt
order_front (x ∷ xs) ys h = (AllByRecursion_front _ xs ys h.0, order_front xs ys h.1)

order_behind : (xs ys : Rows) → AreInOrder (xs ++ ys) → AreInOrder ys
order_behind [] ys h = h
order_behind (x ∷ xs) ys h = order_behind xs ys h.1

parts_build : (parts : List Rows) → AllByRecursion (λ rows. 0 < length rows) parts → AreInOrder (flat_map (λ rows. rows) parts) → AllByRecursion FitsMemory (flat_map (λ rows. rows) parts) → AllByRecursion CanBuild parts
parts_build [] some order fit = tt
parts_build (p ∷ parts) some order fit =
    let rest = flat_map (λ (rows : Rows). rows) parts in
    (record { some = some.0; order = order_front p rest order; fit = AllByRecursion_front FitsMemory p rest fit }, parts_build parts some.1 (order_behind p rest order) (AllByRecursion_behind FitsMemory p rest fit))

pub cut_builds : (g : Segments) (limit : ℕ) (all rows : Rows) (parts : List Rows) → rows ≡ all → AreInOrder all → AllByRecursion FitsMemory all → AreCut g limit rows parts → AllByRecursion CanBuild parts
cut_builds g limit all rows parts same order fit cut =
    parts_build parts cut.some (subst AreInOrder (sym (cut.all ∙ same)) order) (subst (AllByRecursion FitsMemory) (sym (cut.all ∙ same)) fit)

-- ---- jobs shared out

-- a bench more has the front of what is left
pub bench_more : {A B : Type 0} (f : B → List A) (bs more : List B) (b : B) (left rest all : List A) (n : ℕ) → flat_map f bs ++ left ≡ all → f b ≡ take n left → rest ≡ drop n left → more ≡ bs ++ (b ∷ []) → flat_map f more ++ rest ≡ all
bench_more f bs more b left rest all n was front behind is =
    (λ i. flat_map f (is i) ++ behind i)
    ∙ ap (λ xs. xs ++ drop n left) (flat_map-append f bs (b ∷ []) ∙ ap (λ xs. flat_map f bs ++ xs) (append-nil (f b) ∙ front))
    ∙ append_assoc (flat_map f bs) (take n left) (drop n left)
    ∙ ap (λ xs. flat_map f bs ++ xs) (take-append-drop n left)
    ∙ was

-- the last one has all that is left
pub bench_last : {A B : Type 0} (f : B → List A) (bs more : List B) (b : B) (left all : List A) → flat_map f bs ++ left ≡ all → f b ≡ left → more ≡ bs ++ (b ∷ []) → flat_map f more ≡ all
bench_last f bs more b left all was last is =
    ap (flat_map f) is ∙ flat_map-append f bs (b ∷ []) ∙ ap (λ xs. flat_map f bs ++ xs) (append-nil (f b) ∙ last) ∙ was

-- what all jobs are, those of one bench are
pub bench_makes : {B : Type 0} (f : B → List Job) (bs : List B) (i : ℕ) (d : B) → AllByRecursion CanMake (flat_map f bs) → i < length bs → AllByRecursion CanMake (f (get_or bs i d))
bench_makes f [] i d each lt = absurd (omega (arith, lt))
bench_makes f (b ∷ bs) zero d each lt = AllByRecursion_front CanMake (f b) (flat_map f bs) each
bench_makes f (b ∷ bs) (suc i) d each lt = bench_makes f bs i d (AllByRecursion_behind CanMake (f b) (flat_map f bs) each) (omega (arith, lt))

pub jobs_same : {B J : Type 0} (items : J → List Job) (jobs : B → J) (xs ys : List B) → map jobs xs ≡ map jobs ys → flat_map (λ b. items (jobs b)) xs ≡ flat_map (λ b. items (jobs b)) ys
jobs_same items jobs xs ys same = flat_map_map items jobs xs ∙ ap (flat_map items) same ∙ sym (flat_map_map items jobs ys)

-- a run, by what the bench was and is
pub run_as : {B : Type 0} (R : B → B → Type 0) (a b x y : B) → a ≡ x → b ≡ y → R a b → R x y
run_as R a b x y is left h = subst (λ v. R x v) left (subst (λ u. R u b) is h)

pub joined_one : {B : Type 0} (f : B → Result (List EncodedTable) SlateDBError) (whole : Result (List EncodedTable) SlateDBError) (all more made : List EncodedTable) (left rest : List B) (b : B) → whole ≡ in_front all (joined_of (map f left)) → left ≡ b ∷ rest → f b ≡ Ok made →
    more ≡ all ++ made → whole ≡ in_front more (joined_of (map f rest))
joined_one f whole all more made left rest b was next is more_is =
    was
    ∙ ap (λ l. in_front all (joined_of (map f l))) next
    ∙ ap (λ r. in_front all (joined_of (r ∷ map f rest))) is
    ∙ sym (in_front_both all made (joined_of (map f rest)))
    ∙ ap (λ l. in_front l (joined_of (map f rest))) (sym more_is)

pub joined_err : {B : Type 0} (f : B → Result (List EncodedTable) SlateDBError) (whole : Result (List EncodedTable) SlateDBError) (all : List EncodedTable) (left rest : List B) (b : B) (e : SlateDBError) → whole ≡ in_front all (joined_of (map f left)) → left ≡ b ∷ rest → f b ≡ Err e → whole ≡ Err e
joined_err f whole all left rest b e was next is = was ∙ ap (λ l. in_front all (joined_of (map f l))) next ∙ ap (λ r. in_front all (joined_of (r ∷ map f rest))) is

pub joined_end : {B : Type 0} (f : B → Result (List EncodedTable) SlateDBError) (whole : Result (List EncodedTable) SlateDBError) (all : List EncodedTable) (left : List B) → whole ≡ in_front all (joined_of (map f left)) → left ≡ [] → whole ≡ Ok all
joined_end f whole all left was none = was ∙ ap (λ l. in_front all (joined_of (map f l))) none ∙ ap Ok (append-nil all)

pub joined_begin : {B : Type 0} (f : B → Result (List EncodedTable) SlateDBError) (all : List EncodedTable) (items left : List B) → all ≡ [] → left ≡ items → joined_of (map f items) ≡ in_front all (joined_of (map f left))
joined_begin f all items left none same = sym (in_front_none (joined_of (map f items))) ∙ (λ i. in_front (sym none i) (joined_of (map f (sym same i))))

-- of an outcome that is known
pub made_as : {V : Type 0} (items : V → List EncodedTable) (r s : Result V SlateDBError) → r ≡ s → tables_made items r ≡ tables_made items s
made_as items r s same = ap (tables_made items) same

pub outcome_as : (encode : Encode) (layout : Layout) (raised : Type 0) (jobs all : List Job) (r s : Result (List EncodedTable) SlateDBError) → IsOutcome encode layout raised jobs r → jobs ≡ all → r ≡ s → IsOutcome encode layout raised all s
outcome_as encode layout raised jobs all r s h same is = subst (IsOutcome encode layout raised all) is (subst (λ (js : List Job). IsOutcome encode layout raised js r) same h)

pub cut_of : (g : Segments) (limit : ℕ) (rows all : Rows) (parts : List Rows) → AreCut g limit rows parts → rows ≡ all → AreCut g limit all parts
cut_of g limit rows all parts cut same = subst (λ (rs : Rows). AreCut g limit rs parts) same cut

pub made_same : (made other : Result (List EncodedTable) SlateDBError) (e : SlateDBError) → made ≡ other → (e ≡ OutOfMemory) ⊎ (other ≡ Err e) → (e ≡ OutOfMemory) ⊎ (made ≡ Err e)
made_same made other e same (inl none) = inl none
made_same made other e same (inr is) = inr (same ∙ is)

-- what was lent whole is what came back
pub written_back : {A : Type 0} (n : ℕ) (new old : List A) → length new ≡ length old → length old ≡ n → take n (new ++ drop (length new) old) ≡ new
written_back n new old same all =
    ap (λ l. take n (new ++ l)) (drop_all (length new) old (omega (arith, same)))
    ∙ ap (take n) (append-nil new)
    ∙ ap (λ k. take k new) (let z : n ≡ length new = omega (arith, same, all) in z)
    ∙ take-length new
