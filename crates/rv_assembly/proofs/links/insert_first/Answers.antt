use Rattle.std.proofs.Common.{◌∙◌, sym}
use Rattle.indexmap.specs.IndexMap.{get}
use Rattle.rv_assembly.proofs.Finding.{first_kept, first_put}
use Rattle.rv_assembly.proofs.links.insert_first.Goals as goal

pub returns-then-contains_key : goal.returns-then-contains_key
returns-then-contains_key g c = λ q.
    first_kept g.K.PartialEq.eq g.met.K.Eq.laws c.args.places.now.entries c.args.key q c.args.place (sym c.contains_key.ensures ∙ c.if-contains_key.true)

pub returns : goal.returns
returns g c = λ q.
    first_put g.K.PartialEq.eq g.met.K.Eq.laws c.args.places.now.entries c.args.key q c.args.place (get g.K.PartialEq.eq c.insert.new.self q) (sym c.contains_key.ensures ∙ c.if-contains_key.false) (c.in_ok-insert.ensures.updates.0 q)
