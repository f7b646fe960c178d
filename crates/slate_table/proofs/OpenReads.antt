-- A table is opened by three calls, one after the other.
use Rattle.std.proofs.Common.{◌≡◌, ℕ, ◌-◌, ◌<◌, ◌≤◌, List, Option, Some, Ok, Err, ◌⊎◌, inl, inr, sym, subst, arith}
use Rattle.slate_types.specs.declared.error.SlateDBError.{SlateDBError}
use Rattle.slate_types.specs.declared.error.SlateDBError.TheVariants.{EmptyBlockMeta}
use Rattle.slate_types.specs.Faults.{Rose}
use Rattle.slate_types.specs.Outside.{Objects}
use Rattle.slate_store.specs.Store.{Act}
use Rattle.slate_table.specs.Decoded.{Info}
use Rattle.slate_table.specs.Reading.{Reads, IsStoreFault}
use Rattle.slate_table.specs.Opening.{IsMeasured, last_in, info_size, IsInfoRead, RefusesInfo, IsOpened, RefusesOpen, MayOpen}

earlier : (a b c : ℕ) (e : SlateDBError) → a ≤ b → IsStoreFault b c e → IsStoreFault a c e
earlier a b c e le (inl memory) = inl memory
earlier a b c e le (inr fault) = let rose : Rose b c = fault.1 in inr (fault.0, omega (arith, le, rose))

pub last_refused : (objects between : Option Objects) (before first after : Option (List Act)) (path : List ℕ) (id size : ℕ) (found : Option ℕ) (a b c : ℕ) (e : SlateDBError) →
    between ≡ objects → a ≤ b → found ≡ Some size → 10 < size → IsMeasured objects before first path found →
    IsStoreFault b c e ⊎ Reads between first after path (size - 10) 10 (λ answer. last_in size answer ≡ Err e) → IsStoreFault a c e ⊎ RefusesOpen objects before after path id e
unfolding RefusesOpen
last_refused objects between before first after path id size found a b c e same le is long measured (inl fault) = inl (earlier a b c e le fault)
last_refused objects between before first after path id size found a b c e same le is long measured (inr read) =
    let sized = subst (λ (m : Option ℕ). IsMeasured objects before first path m) is measured in
    let told = subst (λ (o : Option Objects). Reads o first after path (size - 10) 10 (λ answer. last_in size answer ≡ Err e)) same read in
    inr (inr (inl (size, first, sized, long, told)))

pub info_refused : (objects between later : Option Objects) (before first second after : Option (List Act)) (path : List ℕ) (id size offset version : ℕ) (found : Option ℕ) (a b c : ℕ) (e : SlateDBError) →
    between ≡ objects → later ≡ objects → a ≤ b → found ≡ Some size → 10 < size → IsMeasured objects before first path found →
    Reads between first second path (size - 10) 10 (λ answer. last_in size answer ≡ Ok (offset, version)) →
    IsStoreFault b c e ⊎ ((after ≡ second) × (info_size size offset ≤ 4) × (e ≡ EmptyBlockMeta (info_size size offset)))
    ⊎ ((4 < info_size size offset) × Reads later second after path offset (info_size size offset) (λ answer. RefusesInfo version id offset answer e)) →
    IsStoreFault a c e ⊎ RefusesOpen objects before after path id e
unfolding RefusesOpen
info_refused objects between later before first second after path id size offset version found a b c e same still le is long measured last (inl fault) = inl (earlier a b c e le fault)
info_refused objects between later before first second after path id size offset version found a b c e same still le is long measured last (inr (inl empty)) =
    let sized = subst (λ (m : Option ℕ). IsMeasured objects before first path m) is measured in
    let told = subst (λ (o : Option Objects). Reads o first second path (size - 10) 10 (λ answer. last_in size answer ≡ Ok (offset, version))) same last in
    let ended = subst (λ (s : Option (List Act)). Reads objects first s path (size - 10) 10 (λ answer. last_in size answer ≡ Ok (offset, version))) (sym empty.0) told in
    inr (inr (inr (inl (size, offset, version, first, sized, long, ended, empty.1, empty.2))))
info_refused objects between later before first second after path id size offset version found a b c e same still le is long measured last (inr (inr refused)) =
    let sized = subst (λ (m : Option ℕ). IsMeasured objects before first path m) is measured in
    let told = subst (λ (o : Option Objects). Reads o first second path (size - 10) 10 (λ answer. last_in size answer ≡ Ok (offset, version))) same last in
    let read = subst (λ (o : Option Objects). Reads o second after path offset (info_size size offset) (λ answer. RefusesInfo version id offset answer e)) still refused.1 in
    inr (inr (inr (inr (size, offset, version, first, second, sized, long, told, refused.0, read))))

pub opens : (objects between later : Option Objects) (before first second after : Option (List Act)) (path : List ℕ) (id size offset version : ℕ) (found : Option ℕ) (info : Info) →
    between ≡ objects → later ≡ objects → found ≡ Some size → 10 < size → IsMeasured objects before first path found →
    Reads between first second path (size - 10) 10 (λ answer. last_in size answer ≡ Ok (offset, version)) → 4 < info_size size offset →
    Reads later second after path offset (info_size size offset) (λ answer. IsInfoRead version id offset answer info) → IsOpened objects before after path id version info
unfolding IsOpened
opens objects between later before first second after path id size offset version found info same still is long measured last some read =
    let sized = subst (λ (m : Option ℕ). IsMeasured objects before first path m) is measured in
    let told = subst (λ (o : Option Objects). Reads o first second path (size - 10) 10 (λ answer. last_in size answer ≡ Ok (offset, version))) same last in
    let info_read = subst (λ (o : Option Objects). Reads o second after path offset (info_size size offset) (λ answer. IsInfoRead version id offset answer info)) still read in
    (size, offset, first, second, sized, long, told, some, info_read)

-- ---- which of the three calls were answered

pub may_size : (objects : Option Objects) (before after : Option (List Act)) (path : List ℕ) (size : Option ℕ) → IsMeasured objects before after path size → MayOpen objects before after path
unfolding MayOpen
may_size objects before after path size measured = inr (inl (size, measured))

pub may_last : (objects between : Option Objects) (before first after : Option (List Act)) (path : List ℕ) (size : ℕ) (found : Option ℕ) → between ≡ objects → found ≡ Some size → IsMeasured objects before first path found →
    (after ≡ first) ⊎ Reads between first after path (size - 10) 10 (λ _. Unit {0}) → MayOpen objects before after path
unfolding MayOpen
may_last objects between before first after path size found same is measured (inl none) =
    may_size objects before after path found (subst (λ (s : Option (List Act)). IsMeasured objects before s path found) (sym none) measured)
may_last objects between before first after path size found same is measured (inr read) =
    let sized = subst (λ (m : Option ℕ). IsMeasured objects before first path m) is measured in
    let told = subst (λ (o : Option Objects). Reads o first after path (size - 10) 10 (λ _. Unit {0})) same read in
    inr (inr (inl (size, first, sized, told)))

pub may_info : (objects between later : Option Objects) (before first second after : Option (List Act)) (path : List ℕ) (size offset version : ℕ) (found : Option ℕ) → between ≡ objects → later ≡ objects → found ≡ Some size → IsMeasured objects before first path found →
    Reads between first second path (size - 10) 10 (λ answer. last_in size answer ≡ Ok (offset, version)) → (after ≡ second) ⊎ Reads later second after path offset (info_size size offset) (λ _. Unit {0}) → MayOpen objects before after path
unfolding MayOpen
may_info objects between later before first second after path size offset version found same still is measured last (inl none) =
    let read = subst (λ (s : Option (List Act)). Reads between first s path (size - 10) 10 (λ answer. last_in size answer ≡ Ok (offset, version))) (sym none) last in
    may_last objects between before first after path size found same is measured (inr (read.0, read.1, tt))
may_info objects between later before first second after path size offset version found same still is measured last (inr read) =
    let sized = subst (λ (m : Option ℕ). IsMeasured objects before first path m) is measured in
    let told = subst (λ (o : Option Objects). Reads o first second path (size - 10) 10 (λ answer. last_in size answer ≡ Ok (offset, version))) same last in
    let info = subst (λ (o : Option Objects). Reads o second after path offset (info_size size offset) (λ _. Unit {0})) still read in
    inr (inr (inr (size, offset, first, second, sized, (told.0, told.1, tt), info)))
