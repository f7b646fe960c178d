-- What is true of all layers stays so.
use Rattle.std.proofs.Common.{◌≡◌, ℕ, ◌<◌, List, [], ◌∷◌, ◌++◌, length, sym, subst, ◌∙◌, append-nil}
use Rattle.std.proofs.lemmas.Grind.{flat_map-append}
use Rattle.std.specs.Prelude.{Result, Ok, Err, OnOk, OnErr}
use Rattle.std.specs.List.{AllByRecursion}
use Rattle.slate_mem.specs.Table.{put_rows}
use Rattle.slate_read.specs.declared.sorted_run.SortedRun.{SortedRun}
use Rattle.slate_db.specs.Layers.{LayersModel, AreLayers, AreRising, FitsMemory, in_memory}
use Rattle.slate_db.specs.Model.{Rows, versions, versions_in}
use Rattle.slate_db.proofs.FlushRows.{rising_front}
use Rattle.slate_db.proofs.MemoryRows.{puts_all, rising_behind}
use Rattle.slate_db.proofs.Puts.{order_puts}
use Rattle.slate_types.proofs.Lists.{AllByRecursion_front, AllByRecursion_push, AllByRecursion_behind}

-- the rows in memory stay where they are
pub versions_frozen : (k : List ℕ) (frozen : List Rows) (active : Rows) → versions_in k ((frozen ++ (active ∷ [])) ++ ([] ∷ [])) ≡ versions_in k (frozen ++ (active ∷ []))
versions_frozen k frozen active = flat_map-append (versions k) (frozen ++ (active ∷ [])) ([] ∷ []) ∙ append-nil (versions_in k (frozen ++ (active ∷ [])))

-- room was made, or some was taken
pub layers_room : (y : LayersModel) (freeze : ℕ) → AreLayers y → AreLayers (record y { for_freeze = freeze })
layers_room y freeze w = record { active_order = w.active_order; frozen_order = w.frozen_order; frozen_some = w.frozen_some; fit = w.fit; rise = w.rise }

pub layers_put : (y : LayersModel) (rows : Rows) → AllByRecursion FitsMemory rows → ((k : List ℕ) → AreRising (versions_in k (y.frozen ++ (put_rows y.active rows ∷ [])))) → AreLayers y → AreLayers (record y { active = put_rows y.active rows })
layers_put y rows fit rise w = record {
  active_order = order_puts y.active rows w.active_order;
  frozen_order = w.frozen_order;
  frozen_some = w.frozen_some;
  fit = AllByRecursion_push _ y.frozen (put_rows y.active rows) (AllByRecursion_front _ y.frozen (y.active ∷ []) w.fit) (puts_all FitsMemory y.active rows (AllByRecursion_behind _ y.frozen (y.active ∷ []) w.fit).0 fit);
  rise = rise;
}

pub layers_frozen : (y : LayersModel) (freeze : ℕ) → 0 < length y.active → AreLayers y → AreLayers (record y { active = []; frozen = y.frozen ++ (y.active ∷ []); for_freeze = freeze })
layers_frozen y freeze some w = record {
  active_order = tt;
  frozen_order = AllByRecursion_push _ _ _ w.frozen_order w.active_order;
  frozen_some = AllByRecursion_push _ _ _ w.frozen_some some;
  fit = AllByRecursion_push _ (in_memory y) [] w.fit tt;
  rise = λ k. subst (λ (xs : Rows). AreRising xs) (sym (versions_frozen k y.frozen y.active)) (w.rise k);
}

pub layers_installed : (y : LayersModel) (runs : List SortedRun) (floor freeze : ℕ) → AreLayers y → AreLayers (record y { frozen = []; runs = runs; floor = floor; for_freeze = freeze })
layers_installed y runs floor freeze w = record {
  active_order = w.active_order;
  frozen_order = tt;
  frozen_some = tt;
  fit = AllByRecursion_behind _ y.frozen (y.active ∷ []) w.fit;
  rise = λ k. rising_behind (versions_in k y.frozen) (versions_in k (y.active ∷ [])) (subst (λ (xs : Rows). AreRising xs) (flat_map-append (versions k) y.frozen (y.active ∷ [])) (w.rise k));
}

-- the rows of a key that wait rise
pub frozen_rise : (y : LayersModel) → AreLayers y → (k : List ℕ) → AreRising (versions_in k y.frozen)
frozen_rise y w k = rising_front (versions_in k y.frozen) (versions_in k (y.active ∷ [])) (subst (λ (xs : Rows). AreRising xs) (flat_map-append (versions k) y.frozen (y.active ∷ [])) (w.rise k))

-- of two ways in which a call leaves rows
pub either_way : {X E : Type 0} (r : Result X E) (P : Rows → Type 0) (good bad new : Rows) → OnOk r (new ≡ good) → OnErr r (new ≡ bad) → P good → P bad → P new
either_way (Ok x) P good bad new is same h k = subst P (sym is) h
either_way (Err e) P good bad new is same h k = subst P (sym same) k
