-- Code that differs in the distances of its jumps alone has the same length and size.
use Rattle.std.proofs.Common.{◌≡◌, ℕ, ◌+◌, Bool, true, false, List, [], ◌∷◌, ◌++◌, length, refl, sym, ap, ◌∙◌}
use Rattle.std.proofs.Common.{length-append}
use Rattle.std.specs.Prelude.{if◌then◌else◌}
use Rattle.pli_language.specs.Tree.{Formats}
use Rattle.pli_typing.specs.TypedTree as Y
use Rattle.pli_coding.specs.Registers.{u1, zero_register}
use Rattle.pli_coding.specs.Assembly.{Code, size_of}
use Rattle.pli_coding.specs.Instructions.{small}
use Rattle.pli_coding.specs.Environments.{Environment, Taken, save}
use Rattle.pli_coding.specs.Storing.{record_code}
use Rattle.pli_coding.specs.Streams.{Elements, controls_carried_out, counted_got, is_counted, element_got}
use Rattle.pli_coding.specs.Streams.{elements_begun, elements_got, elements_of, field_awaited, item_got, items_got}
use Rattle.pli_coding.specs.Streams.{next_asked, turns}
use Rattle.rv_assembly.specs.declared.place.Place.{Place}
use Rattle.rv_assembly.specs.Places.{jump_place}
use Rattle.rv_assembly.proofs.Growing.{size_append}
use Rattle.rv_item.specs.Ends.{end_first, exit_behind}
use Rattle.rv_stream.specs.Exits.{counted_exit, counted_kept, elements_exit, elements_kept, item_exit, item_kept}
use Rattle.rv_stream.specs.Exits.{items_exits, items_kept, scalar_kept}
use Rattle.rv_item.specs.Turns.{turn_begun}

-- ---- appended code

pub record Alike (a b : Code) : Type 0 where
  pub lengths : length a ≡ length b
  pub sizes : size_of a ≡ size_of b

pub alike_before : (a b more : Code) → Alike a b → Alike (a ++ more) (b ++ more)
alike_before a b more h = record {
  lengths = length-append a more ∙ ap (λ n. n + length more) h.lengths ∙ sym (length-append b more);
  sizes = size_append a more ∙ ap (λ n. n + size_of more) h.sizes ∙ sym (size_append b more);
}

pub alike_behind : (before a b : Code) → Alike a b → Alike (before ++ a) (before ++ b)
alike_behind before a b h = record {
  lengths = length-append before a ∙ ap (λ n. length before + n) h.lengths ∙ sym (length-append before b);
  sizes = size_append before a ∙ ap (λ n. size_of before + n) h.sizes ∙ sym (size_append before b);
}

pub alike_both : (a b c d : Code) → Alike a b → Alike c d → Alike (a ++ c) (b ++ d)
alike_both a b c d h k = record {
  lengths = (alike_before a b c h).lengths ∙ (alike_behind b c d k).lengths;
  sizes = (alike_before a b c h).sizes ∙ (alike_behind b c d k).sizes;
}

-- ---- places behind it

abbrev place_at : ℕ → ℕ → Place
place_at n words = record { index = n; words = words + 2 }

pub same_jump : (a b : Code) → Alike a b → jump_place a ≡ jump_place b
unfolding jump_place
same_jump a b h = ap (λ n. place_at n (size_of a)) h.lengths ∙ ap (λ n. place_at (length b) n) h.sizes

pub same_exit : (a b : Code) → Alike a b → exit_behind a ≡ exit_behind b
unfolding exit_behind
same_exit a b h =
    same_jump (a ++ (controls_carried_out ++ (small u1 3 ∷ end_first))) (b ++ (controls_carried_out ++ (small u1 3 ∷ end_first)))
    (alike_before a b (controls_carried_out ++ (small u1 3 ∷ end_first)) h)

same_elements : (e : Environment) (l : Elements) (r : Y.Reference) (a b : Code) → Alike a b → elements_exit e l r a
    ≡ elements_exit e l r b
unfolding elements_exit
same_elements e l r a b h =
    let begun : Code = record_code e l.taken r ++ (elements_begun l ++ turn_begun (next_asked e l r)) in
    same_exit (a ++ begun) (b ++ begun) (alike_before a b begun h)

same_counted : (t : Taken) (a b : Code) → Alike a b → counted_exit t a ≡ counted_exit t b
unfolding counted_exit
same_counted t a b h =
    same_exit (a ++ save zero_register t) (b ++ save zero_register t) (alike_before a b (save zero_register t) h)

same_aggregate : (counted : Bool) (e : Environment) (t : Taken) (r : Y.Reference) (a b : Code) → Alike a b
    → (if counted then counted_exit t a else elements_exit e (elements_of t r) r a)
    ≡ (if counted then counted_exit t b else elements_exit e (elements_of t r) r b)
same_aggregate true e t r a b h = same_counted t a b h
same_aggregate false e t r a b h = same_elements e (elements_of t r) r a b h

pub same_item : (e : Environment) (t : Taken) (i : Y.GetItem) (a b : Code) → Alike a b → item_exit e t a i
    ≡ item_exit e t b i
same_item e t (Y.GetScalar r) a b h = same_exit a b h
same_item e t (Y.GetAggregate r) a b h = same_aggregate (is_counted e r) e t r a b h

pub same_items : (e : Environment) (t : Taken) (formats : Formats) (is : List Y.GetItem) (a b : Code) → Alike a b → items_exits e t formats a is ≡ items_exits e t formats b is
same_items e t formats [] a b h = refl
same_items e t formats (i ∷ is) a b h =
    ap (λ p. p ∷ items_exits e t formats (a ++ item_kept e t formats i) is) (same_item e t i a b h)
    ∙ ap (λ ps. item_exit e t b i ∷ ps) (same_items e t formats is (a ++ item_kept e t formats i) (b ++ item_kept e t formats i) (alike_before a b (item_kept e t formats i) h))

-- ---- what the jumps lead to leaves the shape

awaited_alike : (inner : Code) (n : ℕ) → Alike (field_awaited n ++ inner) (field_awaited 0 ++ inner)
awaited_alike inner n = record { lengths = refl; sizes = refl }

turn_alike : (l : Elements) (asked each : Code) (n : ℕ) → Alike (turns l asked (field_awaited n ++ each)) (turns l asked (field_awaited 0 ++ each))
turn_alike l asked each n = alike_behind asked _ _ (record { lengths = refl; sizes = refl })

pub elements_alike : (e : Environment) (l : Elements) (formats : Formats) (r : Y.Reference) (behind : ℕ) → Alike (elements_got e l formats r behind) (elements_kept e l formats r)
unfolding elements_kept
elements_alike e l formats r behind =
    alike_behind (record_code e l.taken r) _ _ (alike_behind (elements_begun l) _ _ (turn_alike l (next_asked e l r) (element_got e l formats r) _))

counted_alike : (e : Environment) (t : Taken) (formats : Formats) (r : Y.Reference) (behind : ℕ)
    → Alike (counted_got e t formats r behind) (counted_kept e t formats r)
unfolding counted_kept
counted_alike e t formats (Y.Referring v locator part subscripts) behind =
    alike_behind (save zero_register t) _ _ (record { lengths = refl; sizes = refl })

aggregate_alike : (counted : Bool) (e : Environment) (t : Taken) (formats : Formats) (r : Y.Reference) (behind : ℕ)
    → Alike (if counted then counted_got e t formats r behind else elements_got e (elements_of t r) formats r behind)
    (if counted then counted_kept e t formats r else elements_kept e (elements_of t r) formats r)
aggregate_alike true e t formats r behind = counted_alike e t formats r behind
aggregate_alike false e t formats r behind = elements_alike e (elements_of t r) formats r behind

pub item_alike : (e : Environment) (t : Taken) (formats : Formats) (i : Y.GetItem) (behind : ℕ) → Alike (item_got e t formats i behind) (item_kept e t formats i)
unfolding scalar_kept
item_alike e t formats (Y.GetScalar r) behind = awaited_alike _ _
item_alike e t formats (Y.GetAggregate r) behind = aggregate_alike (is_counted e r) e t formats r behind

pub items_alike : (e : Environment) (t : Taken) (formats : Formats) (behind : ℕ) (is : List Y.GetItem) → Alike (items_got e t formats behind is) (items_kept e t formats is)
items_alike e t formats behind [] = record { lengths = refl; sizes = refl }
items_alike e t formats behind (i ∷ is) =
    alike_both (item_got e t formats i (size_of (items_got e t formats behind is) + behind)) (item_kept e t formats i) (items_got e t formats behind is) (items_kept e t formats is)
    (item_alike e t formats i (size_of (items_got e t formats behind is) + behind)) (items_alike e t formats behind is)
