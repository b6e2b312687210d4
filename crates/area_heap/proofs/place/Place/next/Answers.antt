use Rattle.std.proofs.Common.{◌+◌, ◌-◌, ap, ◌∙◌, refl, arith}
use Rattle.pli_typing.specs.Signatures.{footprint}
use Rattle.area_heap.proofs.Walks.{steps, next_reached, next_rest, next_end}
use Rattle.area_heap.proofs.place.Place.next.Goals as goal

pub word_at-requires : goal.word_at-requires
word_at-requires c =
    let s = steps c.args.bytes.now c.args.self.link_at c.args.self.end c.args.self.link c.requires.reached c.requires.leads in
    omega (arith, s.within, c.requires.reached.as_many)

pub returns-clause-reached : goal.returns-clause-reached
returns-clause-reached c =
    next_reached c.args.bytes.now c.args.self.link_at c.args.self.end c.args.self.link (c.args.self.link - 1 + 28) (c.args.self.link - 1 + c.footprint.result) c.word_at.result
    c.requires.reached c.requires.leads refl
    (ap (λ x. c.args.self.link - 1 + x) (c.footprint.ensures ∙ ap footprint c.word_at-2.ensures))
    c.word_at.ensures

pub returns-clause-rest : goal.returns-clause-rest
returns-clause-rest c =
    next_rest c.args.bytes.now c.args.self.link_at c.args.self.end c.args.self.link (c.args.self.link - 1 + c.footprint.result)
    c.requires.reached c.requires.leads
    (ap (λ x. c.args.self.link - 1 + x) (c.footprint.ensures ∙ ap footprint c.word_at-2.ensures))

pub returns-clause-further : goal.returns-clause-further
returns-clause-further c =
    let s = steps c.args.bytes.now c.args.self.link_at c.args.self.end c.args.self.link c.requires.reached c.requires.leads in
    omega (arith, s.behind_end, c.requires.reached.before_end)

pub returns-clause-ends : goal.returns-clause-ends
returns-clause-ends c =
    next_end c.args.bytes.now c.args.self.link_at c.args.self.end c.args.self.link (c.args.self.link - 1 + c.footprint.result)
    c.requires.reached c.requires.leads
    (ap (λ x. c.args.self.link - 1 + x) (c.footprint.ensures ∙ ap footprint c.word_at-2.ensures))
