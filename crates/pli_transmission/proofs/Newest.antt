-- Places kept from the oldest on, and seen from the newest on.
use Rattle.std.proofs.Common.{◌≡◌, ℕ, ◌+◌, ◌-◌, ◌<◌, ◌≤◌, false, List, [], ◌∷◌, ◌++◌, length, take, drop, get_or}
use Rattle.std.proofs.Common.{set, Result, refl, sym, ap, subst, ◌∙◌, arith, length-drop}
use Rattle.std.proofs.lemmas.List.{map-append, reverse-append, take-append-drop, drop_at, length-reverse, length-map, length-set, take_more, take_more_set, take_all}
use Rattle.pli_meaning.specs.InputLines.{Input}
use Rattle.pli_meaning.specs.World.{World}
use Rattle.pli_serving.specs.ServiceState.{EditPlace, Entry, Direction, Getting, Putting}
use Rattle.pli_serving.specs.Answers.{Answer}
use Rattle.pli_serving.specs.Finding.{Call}
use Rattle.pli_answering.specs.Answering.{Answers}
use Rattle.pli_answering.specs.declared.reply.Reply.{Reply}
use Rattle.pli_answering.specs.declared.reply.Refusal.{Refusal}
use Rattle.pli_transmission.specs.Edits.{EditKept}
use Rattle.pli_transmission.specs.Transmitting.{is_get, is_getting, on_edit}
use Rattle.pli_transmission.specs.Transmitting.{on_entries, places_of, with_edits}

places_append : (xs ys : List EditKept) → places_of (xs ++ ys) ≡ places_of ys ++ places_of xs
places_append xs ys = rw (map-append, reverse-append) refl

length_places : (xs : List EditKept) → length (places_of xs) ≡ length xs
length_places xs = rw (length-reverse, length-map) refl

-- only the oldest places stay
places_cut : (n : ℕ) (xs : List EditKept) → n ≤ length xs → places_of (take n xs) ≡ drop (length (places_of xs) - n) (places_of xs)
places_cut n xs h =
    let split : places_of xs ≡ places_of (drop n xs) ++ places_of (take n xs) = ap places_of (sym (take-append-drop n xs)) ∙ places_append (take n xs) (drop n xs) in
    let count : length (places_of (drop n xs)) ≡ length (places_of xs) - n = length_places (drop n xs) ∙ (length-drop n xs ∙ ap (λ k. k - n) (sym (length_places xs))) in
    sym (ap (drop (length (places_of xs) - n)) split ∙ drop_at (places_of (drop n xs)) (places_of (take n xs)) (length (places_of xs) - n) count)

pub places_kept : (n : ℕ) (xs : List EditKept) → n ≤ length (places_of xs) → places_of (take n xs) ≡ drop (length (places_of xs) - n) (places_of xs)
places_kept n xs h = places_cut n xs (omega (arith, h, length_places xs))

-- all places but the newest, and the newest
places_more : (xs : List EditKept) (n : ℕ) (d : EditKept) → n < length xs → places_of (take (n + 1) xs) ≡ (get_or xs n d).place ∷ places_of (take n xs)
places_more xs n d h = ap places_of (take_more xs n d h) ∙ places_append (take n xs) (get_or xs n d ∷ [])

places_split : (xs : List EditKept) (n : ℕ) (d : EditKept) → n + 1 ≡ length xs → d ≡ get_or xs n d → places_of xs ≡ d.place ∷ places_of (take n xs)
places_split xs n d h e =
    ap places_of (sym (take_all (n + 1) xs (omega (arith, h))))
    ∙ (places_more xs n d (omega (arith, h))
    ∙ ap (λ (k : EditKept). k.place ∷ places_of (take n xs)) (sym e))

-- the newest place is of PUT where it is none of GET
puts : (p : EditPlace) → is_get p.direction ≡ false → p.direction ≡ Putting
puts p h = is_put p.direction h
  where
    is_put : (d : Direction) → is_get d ≡ false → d ≡ Putting
    is_put Getting h = absurd cc
    is_put Putting h = refl

pub newest_puts : (xs : List EditKept) (n : ℕ) (d : EditKept) → n + 1 ≡ length xs → d ≡ get_or xs n d →
    is_getting (places_of xs) ≡ false → d.place.direction ≡ Putting
newest_puts xs n d h e none = puts d.place (subst (λ l. is_getting l ≡ false) (places_split xs n d h e) none)

-- the newest place is changed
places_set : (xs : List EditKept) (n : ℕ) (e : EditKept) → n + 1 ≡ length xs → places_of (set xs n e) ≡ e.place ∷ places_of (take n xs)
places_set xs n e h =
    let whole : take (n + 1) (set xs n e) ≡ set xs n e = take_all (n + 1) (set xs n e) (omega (arith, length-set xs n e)) in
    ap places_of (sym whole ∙ take_more_set xs n e (omega arith)) ∙ places_append (take n xs) (e ∷ [])

-- a service on the newest place
pub newest_answers : (f : Call → Answer) (s s' : World) (i i' : Input) (xs : List EditKept) (n : ℕ) (d e : EditKept)
    (c : Call) (r : Result Reply Refusal) → n + 1 ≡ length xs → d ≡ get_or xs n d
    → Answers f (on_edit s i d (places_of (take n xs)) c) r (on_edit s' i' e (places_of (take n xs)) c)
    → Answers f (with_edits s i (places_of xs) c) r (with_edits s' i' (places_of (set xs n e)) c)
newest_answers f s s' i i' xs n d e c r h v a =
    subst (λ (l : List EditPlace). Answers f (with_edits s i l c) r (with_edits s' i' (places_of (set xs n e)) c))
    (sym (places_split xs n d h v))
    (subst (λ (l : List EditPlace). Answers f (on_edit s i d (places_of (take n xs)) c) r (with_edits s' i' l c))
    (sym (places_set xs n e h)) a)

pub newest_with_entries : (f : Call → Answer) (s s' : World) (i i' : Input) (es es' : List Entry) (xs : List EditKept)
    (n : ℕ) (d e : EditKept) (c : Call) (r : Result Reply Refusal) → n + 1 ≡ length xs → d ≡ get_or xs n d
    → Answers f (on_entries es (on_edit s i d (places_of (take n xs)) c)) r (on_entries es' (on_edit s' i' e (places_of (take n xs)) c))
    → Answers f (on_entries es (with_edits s i (places_of xs) c)) r
    (on_entries es' (with_edits s' i' (places_of (set xs n e)) c))
newest_with_entries f s s' i i' es es' xs n d e c r h v a =
    subst (λ (l : List EditPlace). Answers f (on_entries es (with_edits s i l c)) r
    (on_entries es' (with_edits s' i' (places_of (set xs n e)) c))) (sym (places_split xs n d h v))
    (subst (λ (l : List EditPlace). Answers f (on_entries es (on_edit s i d (places_of (take n xs)) c)) r
    (on_entries es' (with_edits s' i' l c))) (sym (places_set xs n e h)) a)
