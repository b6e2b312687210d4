-- Control items that are carried out, and what is next then.
use Rattle.std.proofs.Common.{◌≡◌, ℕ, ◌+◌, ◌^◌, Bool, true, false, List, [], ◌∷◌, Some, None, refl, sym, ap, ◌∙◌}
use Rattle.std.specs.Prelude.{nat_lt, if◌then◌else◌}
use Rattle.pli_meaning.specs.Streaming.{FormatItem, DataFormat, ControlFormat, ControlItem}
use Rattle.pli_serving.specs.ServiceState.{Services, EditPlace, Direction, Getting, Putting}
use Rattle.pli_serving.specs.Answers.{Answer, Done, Bad}
use Rattle.pli_serving.specs.Finding.{Call}
use Rattle.pli_serving.specs.Outcomes.{becoming, or_bad}
use Rattle.pli_serving.specs.Edits.{NextItem, first_of, next_in, next_item, on_next, next_answered, item_number, control_done, control_carried_out, with_edits}
use Rattle.pli_language.specs.View.{option_of}
use Rattle.pli_transmission.specs.declared.item.Control.{Control}
use Rattle.pli_transmission.specs.Items.{control_in, control_shown, moved_input, moved_world}

-- ---- the next item

first_kept : (p : EditPlace) (items : List FormatItem) (n : NextItem) → first_of p items ≡ Some n → n.behind.direction ≡ p.direction
first_kept p [] n e = cc
first_kept p (f ∷ rest) n e =
    let same : n ≡ record { item = f; behind = record p { rest = rest } } = cc in
    ap (λ (m : NextItem). m.behind.direction) same

next_kept : (p : EditPlace) (rest : List FormatItem) (n : NextItem) → next_in p rest ≡ Some n → n.behind.direction ≡ p.direction
next_kept p [] n e = first_kept p p.whole n e
next_kept p (f ∷ rest) n e = first_kept p (f ∷ rest) n e

pub direction_kept : (p : EditPlace) (n : NextItem) → next_item p ≡ Some n → n.behind.direction ≡ p.direction
direction_kept p n e = next_kept p p.rest n e

pub on_some : (p : EditPlace) (below : List EditPlace) (n : NextItem) (next : NextItem → List EditPlace → Answer) → next_item p ≡ Some n → on_next (p ∷ below) next ≡ next n below
on_some p below n next e = ap (λ o. or_bad o (λ n. next n below)) e

pub on_none : (p : EditPlace) (below : List EditPlace) (next : NextItem → List EditPlace → Answer) → next_item p ≡ None → on_next (p ∷ below) next ≡ Bad
on_none p below next e = ap (λ o. or_bad o (λ n. next n below)) e

-- ---- control items

pub control_is : (k : Control) (i : FormatItem) → option_of control_shown (Some k) ≡ control_in i → i ≡ ControlFormat (control_shown k)
control_is k (DataFormat d) e = cc
control_is k (ControlFormat j) e = let same : control_shown k ≡ j = cc in ap ControlFormat (sym same)

-- what is next is told
told_so : (c : Call) (v : Services) (y : ℕ) (p : EditPlace) (below : List EditPlace) (n : NextItem) → v.edits ≡ p ∷ below → next_item p ≡ Some n → next_answered c v y ≡ Done v c.memory (item_number n.behind.direction v.input n.item) y
told_so c v y p below n h s =
    let next : NextItem → List EditPlace → Answer = λ m l. becoming c v (item_number m.behind.direction v.input m.item) y in
    ap (λ l. on_next l next) h ∙ on_some p below n next s

told_none : (c : Call) (v : Services) (y : ℕ) (p : EditPlace) (below : List EditPlace) → v.edits ≡ p ∷ below → next_item p ≡ None → next_answered c v y ≡ Bad
told_none c v y p below h s =
    let next : NextItem → List EditPlace → Answer = λ m l. becoming c v (item_number m.behind.direction v.input m.item) y in
    ap (λ l. on_next l next) h ∙ on_none p below next s

-- no control item
no_control : (c : Call) (y : ℕ) (i : FormatItem) (behind : EditPlace) (below : List EditPlace) → None ≡ control_in i → control_carried_out c y i behind below ≡ next_answered c c.services y
no_control c y (DataFormat d) behind below e = refl
no_control c y (ControlFormat k) behind below e = cc

pub data_next : (c : Call) (y : ℕ) (n : NextItem) (below : List EditPlace) (p : EditPlace) (edits : List EditPlace) → None ≡ control_in n.item → c.services.edits ≡ p ∷ edits → next_item p ≡ Some n
    → control_carried_out c y n.item n.behind below ≡ Done c.services c.memory (item_number n.behind.direction c.services.input n.item) y
data_next c y n below p edits e h s = no_control c y n.item n.behind below e ∙ told_so c c.services y p edits n h s

pub moved_so : (d : Direction) (k : ControlItem) (v : Services) → control_done d k v ≡ record v { world = moved_world d k v.world; input = moved_input d k v.input }
moved_so Getting k v = refl
moved_so Putting k v = refl

-- what is carried out
pub carried_so : (c : Call) (y : ℕ) (k : ControlItem) (d : Direction) (behind : EditPlace) (below : List EditPlace) (m : NextItem) → behind.direction ≡ d → next_item behind ≡ Some m → nat_lt (c.services.world.acts + 1) (2 ^ 64) ≡ true
    → control_carried_out c y (ControlFormat k) behind below
    ≡ Done (record c.services { world = moved_world d k c.services.world; input = moved_input d k c.services.input; edits = behind ∷ below }) c.memory (item_number d (moved_input d k c.services.input) m.item) y
carried_so c y k d behind below m e s h =
    ap (λ b. if b then next_answered c (with_edits (behind ∷ below) (control_done behind.direction k c.services)) y else Bad) h
    ∙ (told_so c (with_edits (behind ∷ below) (control_done behind.direction k c.services)) y behind below m refl s
    ∙ (ap (λ dd. Done (with_edits (behind ∷ below) (control_done behind.direction k c.services)) c.memory (item_number dd (control_done behind.direction k c.services).input m.item) y) (direction_kept behind m s)
    ∙ (ap (λ dd. Done (with_edits (behind ∷ below) (control_done dd k c.services)) c.memory (item_number dd (control_done dd k c.services).input m.item) y) e
    ∙ ap (λ v. Done (with_edits (behind ∷ below) v) c.memory (item_number d v.input m.item) y) (moved_so d k c.services))))

pub carried_not : (c : Call) (y : ℕ) (k : ControlItem) (behind : EditPlace) (below : List EditPlace) → nat_lt (c.services.world.acts + 1) (2 ^ 64) ≡ false → control_carried_out c y (ControlFormat k) behind below ≡ Bad
carried_not c y k behind below h =
    ap (λ b. if b then next_answered c (with_edits (behind ∷ below) (control_done behind.direction k c.services)) y else Bad) h

bad_both : (b : Bool) → (if b then Bad else Bad) ≡ Bad
bad_both true = refl
bad_both false = refl

pub carried_none : (c : Call) (y : ℕ) (k : ControlItem) (behind : EditPlace) (below : List EditPlace) → next_item behind ≡ None → control_carried_out c y (ControlFormat k) behind below ≡ Bad
carried_none c y k behind below s =
    ap (λ a. if nat_lt (c.services.world.acts + 1) (2 ^ 64) then a else Bad) (told_none c (with_edits (behind ∷ below) (control_done behind.direction k c.services)) y behind below refl s)
    ∙ bad_both (nat_lt (c.services.world.acts + 1) (2 ^ 64))
