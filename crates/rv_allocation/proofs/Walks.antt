-- The code of ALLOCATE and FREE by its pieces.
use Rattle.std.proofs.Common.{◌≡◌, ◌<◌, ℕ, ◌+◌, List, [], ◌∷◌, ◌++◌, Option, Some, None, map, length, drop, get_or}
use Rattle.std.proofs.Common.{refl, sym, ap, ◌∙◌, append_assoc, append-nil}
use Rattle.std.proofs.lemmas.List.{drop_all}
use Rattle.pli_typing.specs.declared.typed.Allocation.{Allocation}
use Rattle.pli_typing.specs.declared.typed.Freeing.{Freeing}
use Rattle.pli_typing.specs.declared.typed.Freeing.TheVariants as F
use Rattle.pli_typing.specs.declared.typed.LocatorTarget.{LocatorTarget}
use Rattle.pli_typing.specs.declared.typed.LocatorTarget.TheVariants as T
use Rattle.pli_typing.specs.TypedTree as Y
use Rattle.pli_typing.specs.TypedView.{area_of, pointer_of, reference_of, variable_of}
use Rattle.pli_typing.specs.TypedStatementView.{allocation_of, freeing_of, target_of}
use Rattle.pli_coding.specs.Registers.{a0, a1, a3}
use Rattle.pli_coding.specs.Assembly.{Code}
use Rattle.pli_coding.specs.Instructions.{small, tested_service}
use Rattle.pli_coding.specs.Environments.{Environment, Taken, with_words}
use Rattle.pli_coding.specs.Locating.{NamePlace, FrameName, own_place, waiting_name, where_standing}
use Rattle.pli_coding.specs.Expressions.{pointer_code, standing_in, standing_name}
use Rattle.pli_coding.specs.Storing.{area_name, name_stored}
use Rattle.pli_coding.specs.Allocating.{allocation_code, allocations_code, behind_amounts, freeing_code}
use Rattle.pli_coding.specs.Allocating.{freeings_code, generation_freed, name_target}
use Rattle.rv_address.proofs.Declared.{shown_from}
use Rattle.rv_assignment.specs.Pieces.{name_put, word_put}
use Rattle.rv_allocation.specs.Pieces.{amounts_kept, based_made, controlled_made, generation_ended, generation_pushed}
use Rattle.rv_allocation.specs.Pieces.{located_freed, locator_told, name_there, newest_freed, offset_told, placed}
use Rattle.rv_allocation.specs.Pieces.{pointer_set}

-- ---- locators

set_is : (e : Environment) (t : Taken) (r : Y.Reference) (o : Option NamePlace)
    → where_standing o (λ name. []) (name_stored e t r) ≡ pointer_set e t r o
unfolding pointer_set name_put
set_is e t r (Some name) = refl
set_is e t r None = refl

pub told-Pointer : (e : _) (t : _) (r : _) → locator_told e t (target_of (T.Pointer r))
    ≡ pointer_set e t (reference_of r) (standing_in e (reference_of r))
unfolding locator_told
told-Pointer e t r = set_is e t (reference_of r) (standing_in e (reference_of r))

pub set-Some : (e : _) (t : _) (r : _) (n : _) → pointer_set e t r (Some n) ≡ []
unfolding pointer_set
set-Some e t r n = refl

pub set-None : (e : _) (t : _) (r : _) → pointer_set e t r None ≡ name_put e t r
unfolding pointer_set
set-None e t r = refl

regroup : (a b c d : Code) → a ++ (b ++ (c ++ d)) ≡ (a ++ (b ++ c)) ++ d
regroup a b c d = ap (λ u. a ++ u) (sym (append_assoc b c d)) ∙ sym (append_assoc a (b ++ c) d)

pub told-Offset : (e : _) (t : _) (r : _) (area : _) → locator_told e t (target_of (T.Offset r area)) ≡ offset_told e t (variable_of area) ++ word_put e (with_words 4 t) (reference_of r)
unfolding locator_told offset_told word_put
told-Offset e t r area =
    regroup (own_place e a0 (waiting_name t)) (area_name e a1 t (variable_of area)) (small a3 1 ∷ tested_service 14) (word_put e (with_words 4 t) (reference_of r))

pub ruleset locators = (told-Pointer, set-Some, set-None, told-Offset, append_assoc, append-nil)

pub target-Pointer : (e : _) (t : _) (r : _) → name_target e t (target_of (T.Pointer r))
    ≡ name_there e t (standing_in e (reference_of r))
unfolding name_there
target-Pointer e t r = refl

pub target-Offset : (e : _) (t : _) (r : _) (area : _) → name_target e t (target_of (T.Offset r area))
    ≡ FrameName e.level (waiting_name t)
target-Offset e t r area = refl

pub target_pointer : (e : Environment) (t : Taken) (x : LocatorTarget) (r : _) (o : Option NamePlace) (n : NamePlace)
    → x ≡ T.Pointer r → o ≡ standing_in e (reference_of r) → n ≡ name_there e t o → n ≡ name_target e t (target_of x)
target_pointer e t x r o n is standing there =
    there
    ∙ ap (name_there e t) standing
    ∙ sym (target-Pointer e t r)
    ∙ ap (λ (y : LocatorTarget). name_target e t (target_of y)) (sym is)

pub ruleset targets = (target_pointer, target-Offset)

-- ---- generations

pub based-is : (e : _) (t : _) (line : _) (v : _) (area : _) (target : _) → based_made e t line v area target
    ≡ amounts_kept e t line v ++ (placed e t v area (name_target e (behind_amounts t) target)
    ++ locator_told e (behind_amounts t) target)
unfolding based_made amounts_kept placed locator_told
based-is e t line v area target = refl

pub controlled-is : (e : _) (t : _) (line : _) (v : _) → controlled_made e t line v ≡ amounts_kept e t line v ++ generation_pushed e t v
unfolding controlled_made amounts_kept generation_pushed
controlled-is e t line v = refl

pub ruleset generations = (based-is, controlled-is, append_assoc, append-nil)

-- ---- FREE

pub freed-Some : (e : _) (t : _) (v : _) (p : _) (area : _) (n : _) → located_freed e t v p area (Some n)
    ≡ generation_ended e t n v area
unfolding located_freed
freed-Some e t v p area n = refl

pub freed-None : (e : _) (t : _) (v : _) (p : _) (area : _) → located_freed e t v p area None ≡ pointer_code e t p
    ++ generation_ended e t (FrameName e.level (waiting_name t)) v area
unfolding located_freed
freed-None e t v p area = refl

pub ruleset located = (freed-Some, freed-None, append_assoc, append-nil)

freed_is : (e : Environment) (t : Taken) (v : Y.Variable) (p : Y.Pointer) (area : Option Y.Variable) (o :
    Option NamePlace)
    → where_standing o (λ name. generation_freed e t name v area) (pointer_code e t p
    ++ generation_freed e t (FrameName e.level (waiting_name t)) v area) ≡ located_freed e t v p area o
unfolding located_freed generation_ended
freed_is e t v p area (Some name) = refl
freed_is e t v p area None = refl

pub free-Based : (e : _) (t : _) (v : _) (p : _) (area : _) → freeing_code e t (freeing_of (F.Based v p area))
    ≡ located_freed e t (variable_of v) (pointer_of p) (area_of area) (standing_name e (pointer_of p))
free-Based e t v p area = freed_is e t (variable_of v) (pointer_of p) (area_of area) (standing_name e (pointer_of p))

pub free-Controlled : (e : _) (t : _) (v : _) → freeing_code e t (freeing_of (F.Controlled v))
    ≡ newest_freed e (variable_of v)
unfolding newest_freed
free-Controlled e t v = refl

pub freed_based : (e : Environment) (t : Taken) (x : Freeing) (v : _) (p : _) (area : _) (o :
    Option NamePlace) (code after : Code)
    → x ≡ F.Based v p area → o ≡ standing_name e (pointer_of p)
    → after ≡ code ++ located_freed e t (variable_of v) (pointer_of p) (area_of area) o
    → after ≡ code ++ freeing_code e t (freeing_of x)
freed_based e t x v p area o code after is standing there =
    there
    ∙ ap (λ n. code ++ located_freed e t (variable_of v) (pointer_of p) (area_of area) n) standing
    ∙ ap (λ c. code ++ c) (sym (free-Based e t v p area))
    ∙ ap (λ (y : Freeing). code ++ freeing_code e t (freeing_of y)) (sym is)

pub freed_controlled : (e : Environment) (t : Taken) (x : Freeing) (v : _) (code after : Code)
    → x ≡ F.Controlled v → after ≡ code ++ newest_freed e (variable_of v)
    → after ≡ code ++ freeing_code e t (freeing_of x)
freed_controlled e t x v code after is there =
    there
    ∙ ap (λ c. code ++ c) (sym (free-Controlled e t v))
    ∙ ap (λ (y : Freeing). code ++ freeing_code e t (freeing_of y)) (sym is)

pub ruleset one_freed = (freed_based, freed_controlled)

-- ---- one after the other

pub next_allocation : (e : Environment) (t : Taken) (line : ℕ) (xs : List Allocation) (i : ℕ) (x : Allocation) (code after target : Code) → i < length xs → x ≡ get_or xs i x → after ≡ code ++ allocation_code e t line (allocation_of x)
    → code ++ allocations_code e t line (map allocation_of (drop i xs)) ≡ target → after ++ allocations_code e t line (map allocation_of (drop (i + 1) xs)) ≡ target
next_allocation e t line xs i x code after target h k a is =
    let rest : Code = allocations_code e t line (map allocation_of (drop (i + 1) xs)) in
    ap (λ u. u ++ rest) a
    ∙ append_assoc code (allocation_code e t line (allocation_of x)) rest
    ∙ ap (λ ys. code ++ allocations_code e t line ys) (sym (shown_from allocation_of xs i x h k))
    ∙ is

pub ruleset allocations = (next_allocation, drop_all, append-nil)

pub next_freeing : (e : Environment) (t : Taken) (xs : List Freeing) (i : ℕ) (x : Freeing) (code after target : Code) → i < length xs → x ≡ get_or xs i x → after ≡ code ++ freeing_code e t (freeing_of x)
    → code ++ freeings_code e t (map freeing_of (drop i xs)) ≡ target → after ++ freeings_code e t (map freeing_of (drop (i + 1) xs)) ≡ target
next_freeing e t xs i x code after target h k a is =
    let rest : Code = freeings_code e t (map freeing_of (drop (i + 1) xs)) in
    ap (λ u. u ++ rest) a
    ∙ append_assoc code (freeing_code e t (freeing_of x)) rest
    ∙ ap (λ ys. code ++ freeings_code e t ys) (sym (shown_from freeing_of xs i x h k))
    ∙ is

pub ruleset freeings = (next_freeing, drop_all, append-nil)
