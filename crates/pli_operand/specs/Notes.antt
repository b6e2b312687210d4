-- What the judgements so far come to, as far as it matters: the least of what they break, and whether the extent that is
-- being judged mentions what it may not.
use Rattle.std.specs.Prelude.{Bool, false, ◌||◌, List, [], ◌∷◌, Option, Some, None}
use Rattle.std.specs.List.{list_any}
use Rattle.pli_language.specs.declared.fault.SourceFault.{SourceFault}
use Rattle.pli_language.specs.Refusals.{soonest}
use Rattle.pli_typing.specs.Judging.{Judged, Mention}
use Rattle.pli_typing.specs.Generations.{is_forbidden}
use Rattle.pli_typing.specs.TypedTree as Y

pub record Noted : Type 0 where
  pub found : Option SourceFault
  pub own : Option Y.Variable
  pub forbidden : Bool

-- outside an extent anything may be mentioned
abbrev pub any_forbidden : Option Y.Variable → List Mention → Bool
any_forbidden None mentions = false
any_forbidden (Some own) mentions = list_any (is_forbidden own) mentions

unfoldable pub with_lists : Noted → List SourceFault → List Mention → Noted
with_lists n faults mentions = record { found = soonest n.found faults; own = n.own; forbidden = n.forbidden || any_forbidden n.own mentions }

-- what is noted with what a part comes to
abbrev pub noted : {X : Type 0} → Noted → Judged X → Noted
noted n j = with_lists n j.faults j.mentions

abbrev pub with_fault : Noted → SourceFault → Noted
with_fault n f = record { found = soonest n.found (f ∷ []); own = n.own; forbidden = n.forbidden }

abbrev pub with_mention : Noted → Mention → Noted
with_mention n m = record { found = n.found; own = n.own; forbidden = n.forbidden || any_forbidden n.own (m ∷ []) }
