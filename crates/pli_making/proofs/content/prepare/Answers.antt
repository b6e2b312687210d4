use Rattle.std.proofs.Common.{None, Some, ap}
use Rattle.pli_serving.specs.Arguments.{capacity_of}
use Rattle.pli_serving.specs.Templates.{shape_at}
use Rattle.pli_storage.specs.Held.{with_held}
use Rattle.pli_values.specs.Beginnings.{shape_of}
use Rattle.pli_making.specs.Making.{fresh_of, prepared_with}
use Rattle.pli_making.proofs.Fittings.{known_capacity, prepares_by}
use Rattle.pli_making.proofs.content.prepare.Goals as goal

pub returns-in-Some-clause-answer : goal.returns-in-Some-clause-answer
returns-in-Some-clause-answer g c = λ m c' owner.
    let C = with_held g.K.AreaKeeper.keeper c.args.held.now m c' in
    let b = c.args.begun.now in
    prepares_by (prepared_with C c.args.wanted owner (fresh_of b) (capacity_of (shape_of b))) (prepared_with C c.args.wanted owner (fresh_of b) (Some c.in-Some.capacity)) C c.args.wanted owner c.area_of.result
    (ap (prepared_with C c.args.wanted owner (fresh_of b)) (known_capacity (shape_at c.args.held.now.signatures c.args.wanted.signature) (shape_of b) (Some c.in-Some.capacity) c.requires.whole c.in-Some.ensures))
    (c.area_of.ensures.answer m c' owner (fresh_of b))

pub returns-in-None-clause-answer : goal.returns-in-None-clause-answer
returns-in-None-clause-answer g c = λ m c' owner.
    let C = with_held g.K.AreaKeeper.keeper c.args.held.now m c' in
    let b = c.args.begun.now in
    prepares_by (prepared_with C c.args.wanted owner (fresh_of b) (capacity_of (shape_of b))) (prepared_with C c.args.wanted owner (fresh_of b) None) C c.args.wanted owner c.values_of.result
    (ap (prepared_with C c.args.wanted owner (fresh_of b)) (known_capacity (shape_at c.args.held.now.signatures c.args.wanted.signature) (shape_of b) None c.requires.whole c.in-None.ensures))
    (c.values_of.ensures.answer g.K.AreaKeeper.keeper m c' owner)
