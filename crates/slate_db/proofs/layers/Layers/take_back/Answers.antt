use Rattle.std.proofs.Common.{◌≡◌, ap, sym, subst, ◌∙◌}
use Rattle.slate_db.specs.Layers.{LayersModel, AreLayers, without_seq}
use Rattle.slate_db.specs.LayersView.{layers_view}
use Rattle.slate_db.specs.Model.{Rows}
use Rattle.slate_db.proofs.layers.Layers.take_back.Goals as goal

becomes : (c : goal.After-drop-new) → layers_view (record c.self.inside { active = c.take_back.new.self }) ≡ record c.args.self.now { active = without_seq c.args.seq c.args.self.now.active }
becomes c = ap (λ (rows : Rows). record (layers_view c.self.inside) { active = rows }) c.take_back.ensures.rows ∙ ap (λ (y : LayersModel). record y { active = without_seq c.args.seq y.active }) c.self.view_is

pub invariant_of-self : goal.invariant_of-self
invariant_of-self c = subst AreLayers (sym (becomes c)) c.requires

pub returns : goal.returns
returns c = record { value = becomes c; whole = subst AreLayers (sym (becomes c)) c.requires }
