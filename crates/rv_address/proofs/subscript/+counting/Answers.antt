use Rattle.std.proofs.Common.{◌+◌, ◌<◌, ◌++◌, ◌∙◌, ap, map, length, refl, rules}
use Rattle.pli_typing.specs.TypedView.{bounds_of, number_of, numbers_of}
use Rattle.pli_coding.specs.Locating.{subscripts_counted}
use Rattle.pli_frames.specs.TakenView.{taken_of}
use Rattle.rv_address.specs.Around.{environment_of}
use Rattle.rv_address.proofs.Counting.{next_subscript}
use Rattle.rv_address.proofs.subscript.+counting.Goals as goal

pub some_counted-returns : goal.some_counted-returns
some_counted-returns t c =
    let some : 0 < length c.args.bounds.now = search rules in
    next_subscript (environment_of c.args.environment.now) (taken_of c.args.taken) (taken_of c.in_ok-waiting.waiting)
    c.args.dimension (c.args.dimension + 1) (number_of c.args.subscript.now) (numbers_of c.args.behind.now)
    c.args.bounds.now _ c.args.code.now c.dimension_counted.new.code c.subscripts_counted.new.code
    some c.in_ok-dimension_counted.ensures c.in_ok-waiting.ensures refl
    (c.in_ok-subscripts_counted.ensures
    ∙ ap (λ bs. c.dimension_counted.new.code ++ subscripts_counted (environment_of c.args.environment.now)
    (taken_of c.in_ok-waiting.waiting) (c.args.dimension + 1) (numbers_of c.args.behind.now) (map bounds_of bs))
    c.behind_first-others.ensures)
