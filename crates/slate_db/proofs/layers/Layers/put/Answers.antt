use Rattle.std.proofs.Common.{◌≡◌, ◌∷◌, ◌++◌, [], ℕ, List, sym, ap, subst, ◌∙◌}
use Rattle.slate_mem.specs.Table.{MemTableModel, put_rows}
use Rattle.slate_db.specs.Layers.{LayersModel, AreLayers, AreRising}
use Rattle.slate_db.specs.Model.{Rows, versions_in}
use Rattle.slate_db.specs.LayersView.{layers_view}
use Rattle.slate_db.proofs.MemoryLayers.{layers_put, either_way}
use Rattle.slate_db.proofs.layers.Layers.put.Goals as goal
use Rattle.slate_types.proofs.Exits.{on_ok_weaker, on_err_weaker}

put : (c : goal.After-put_all) → AreLayers (record (layers_view c.self.inside) { active = put_rows c.self.inside.active.rows c.args.rows.items })
put c = layers_put (layers_view c.self.inside) c.args.rows.items c.requires.fit
    (subst (λ (y : LayersModel). (k : List ℕ) → AreRising (versions_in k (y.frozen ++ (put_rows y.active c.args.rows.items ∷ [])))) (sym c.self.view_is) c.requires.rise) c.self.invariant

stays : (c : goal.After-put_all) → AreLayers (layers_view (record c.self.inside { active = c.put_all.new.self }))
stays c = either_way c.put_all.result (λ (rows : Rows). AreLayers (record (layers_view c.self.inside) { active = rows })) _ c.self.inside.active.rows c.put_all.new.self.rows
    c.put_all.ensures.rows (on_err_weaker c.put_all.result (λ is. ap (λ (t : MemTableModel). t.rows) is) c.put_all.ensures.same) (put c) c.self.invariant

pub invariant_of-self : goal.invariant_of-self
invariant_of-self c = stays c

pub returns-clause-value : goal.returns-clause-value
returns-clause-value c = on_ok_weaker c.put_all.result (λ is. ap (λ (rows : Rows). record (layers_view c.self.inside) { active = rows }) is ∙ ap (λ (y : LayersModel). record y { active = put_rows y.active c.args.rows.items }) c.self.view_is) c.put_all.ensures.rows

pub returns-clause-same : goal.returns-clause-same
returns-clause-same c = on_err_weaker c.put_all.result (λ is. ap (λ (t : MemTableModel). record (layers_view c.self.inside) { active = t.rows }) is ∙ c.self.view_is) c.put_all.ensures.same

pub returns-clause-whole : goal.returns-clause-whole
returns-clause-whole c = stays c
