-- Variables of level 1 that stand in source order, and the members of each.
use Rattle.std.specs.Prelude.{Bool, true, false, ◌&&◌, List, [], ◌∷◌}
use Rattle.std.specs.List.{list_all}
use Rattle.pli_language.specs.Declarations.{Held}
use Rattle.pli_typing.specs.Variables.{stands_before}

-- the first is declared before the variable that these begin with
abbrev pub is_ahead : Held → List Held → Bool
is_ahead h [] = false
is_ahead h (k ∷ members) = stands_before h.variable.declared.name.place k.variable.declared.name.place

abbrev pub begins_ahead : List Held → List Held → Bool
begins_ahead [] next = false
begins_ahead (h ∷ members) next = is_ahead h next

-- none stand behind the last
abbrev pub ahead_of_next : List Held → List (List Held) → Bool
ahead_of_next members [] = true
ahead_of_next members (next ∷ groups) = begins_ahead members next

-- each is declared before the next
abbrev pub are_in_order : List (List Held) → Bool
are_in_order [] = true
are_in_order (members ∷ groups) = ahead_of_next members groups && are_in_order groups

-- members: each is declared before the next
abbrev pub ahead_of_rest : Held → List Held → Bool
ahead_of_rest h [] = true
ahead_of_rest h (k ∷ members) = stands_before h.variable.declared.name.place k.variable.declared.name.place

abbrev pub ascend : List Held → Bool
ascend [] = true
ascend (h ∷ members) = ahead_of_rest h members && ascend members

abbrev pub all_ascend : List (List Held) → Bool
all_ascend groups = list_all ascend groups
