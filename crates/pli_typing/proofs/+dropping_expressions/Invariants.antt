use Rattle.std.proofs.Common.{◌≤◌}
use Rattle.pli_typing.specs.declared.typed.Bit.{size-Bit}
use Rattle.pli_typing.specs.declared.typed.Number.{size-Number}
use Rattle.pli_typing.specs.declared.typed.Pointer.{size-Pointer}
use Rattle.pli_typing.specs.declared.typed.Text.{size-Text}
use Rattle.pli_typing.specs.declared.typed.Numbers.{size-Numbers}
use Rattle.pli_typing.specs.declared.typed.Arguments.{size-Arguments}
use Rattle.pli_typing.proofs.+dropping_expressions.Given as goal

abbrev pub invariant-typed::Numbers::drop-loop-self : goal.invariant-typed::Numbers::drop-loop-self
invariant-typed::Numbers::drop-loop-self l = size-Numbers l.self ≤ size-Numbers l.fn.self

abbrev pub invariant-typed::Arguments::drop-loop-self : goal.invariant-typed::Arguments::drop-loop-self
invariant-typed::Arguments::drop-loop-self l = size-Arguments l.self ≤ size-Arguments l.fn.self

abbrev pub invariant-typed::Number::drop-loop-self : goal.invariant-typed::Number::drop-loop-self
invariant-typed::Number::drop-loop-self l = size-Number l.self ≤ size-Number l.fn.self

abbrev pub invariant-typed::Text::drop-loop-self : goal.invariant-typed::Text::drop-loop-self
invariant-typed::Text::drop-loop-self l = size-Text l.self ≤ size-Text l.fn.self

abbrev pub invariant-typed::Bit::drop-loop-self : goal.invariant-typed::Bit::drop-loop-self
invariant-typed::Bit::drop-loop-self l = size-Bit l.self ≤ size-Bit l.fn.self

abbrev pub invariant-typed::Pointer::drop-loop-self : goal.invariant-typed::Pointer::drop-loop-self
invariant-typed::Pointer::drop-loop-self l = size-Pointer l.self ≤ size-Pointer l.fn.self
