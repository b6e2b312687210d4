use Rattle.std.proofs.Common.{◌≡◌, sym, subst, Option, Some, None, MatchOption}
use Rattle.pli_typing.specs.Kinds.{Kind, Converts, NeverConverts, conversion}
use Rattle.pli_language.specs.View.{option_of}
use Rattle.pli_typing.proofs.Conversions.{decides}
use Rattle.pli_types.specs.declared.kind.Conversion.{Conversion}
use Rattle.pli_types.specs.View.{conversion_of, kind_of}
use Rattle.pli_types.proofs.kind.convert_kind.Goals as goal

by_computed : (from to : Kind) (found : Option Conversion) → option_of conversion_of found ≡ conversion from to → MatchOption found (NeverConverts from to) (λ c. Converts from to (conversion_of c))
by_computed from to None e = subst (λ o. MatchOption o (NeverConverts from to) (Converts from to)) (sym e) (decides from to)
by_computed from to (Some c) e = subst (λ o. MatchOption o (NeverConverts from to) (Converts from to)) (sym e) (decides from to)

pub returns-clause-exact : goal.returns-clause-exact
returns-clause-exact c = by_computed (kind_of c.args.from) (kind_of c.args.to) c.converted.result c.converted.ensures
