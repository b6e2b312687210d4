-- Jumps that lead to an exit.
use Rattle.std.proofs.Common.{◌≡◌, ℕ, ◌+◌, ◌-◌, ◌<◌, List, [], ◌∷◌, length, get_or, drop, refl, sym, ap, ◌∙◌, subst}
use Rattle.std.proofs.lemmas.List.{drop_more}
use Rattle.pli_coding.specs.Assembly.{Item, JumpAhead, Code, item_size}
use Rattle.rv_assembly.specs.declared.place.Place.{Place}
use Rattle.rv_assembly.specs.Places.{IsPlace, patched}
use Rattle.rv_assembly.proofs.Places.{still_place}
use Rattle.rv_stream.specs.Exits.{AreExits, led}

abbrev pub blank : Place
blank = record { index = 0; words = 0 }

all_stay : (code : Code) (p : Place) (x : Item) (ps : List Place) → IsPlace 2 code p → item_size x ≡ 2 → AreExits code ps → AreExits (patched code p x) ps
all_stay code p x [] h e a = tt
all_stay code p x (q ∷ ps) h e a = (still_place 2 2 code p q x h e a.0, all_stay code p x ps h e a.1)

pub next_exit : (code : Code) (ps : List Place) (i : ℕ) → i < length ps → AreExits code (drop i ps) → IsPlace 2 code (get_or ps i blank)
next_exit code ps i h a = (subst (AreExits code) (drop_more ps i blank h) a).0

pub exits_stay : (code next : Code) (ps : List Place) (i n : ℕ) → i < length ps → next ≡ patched code (get_or ps i blank) (JumpAhead n) → AreExits code (drop i ps) → AreExits next (drop (i + 1) ps)
exits_stay code next ps i n h s a =
    let b : AreExits code (get_or ps i blank ∷ drop (i + 1) ps) = subst (AreExits code) (drop_more ps i blank h) a in
    subst (λ u. AreExits u (drop (i + 1) ps)) (sym s) (all_stay code (get_or ps i blank) (JumpAhead n) (drop (i + 1) ps) b.0 refl b.1)

pub next_led : (end : ℕ) (code next : Code) (ps : List Place) (i n : ℕ) (target : Code) → i < length ps
    → next ≡ patched code (get_or ps i blank) (JumpAhead n) → n ≡ end - (get_or ps i blank).words → led end (drop i ps) code ≡ target → led end (drop (i + 1) ps) next ≡ target
next_led end code next ps i n target h s e is =
    ap (led end (drop (i + 1) ps)) s
    ∙ ap (λ k. led end (drop (i + 1) ps) (patched code (get_or ps i blank) (JumpAhead k))) e
    ∙ sym (ap (λ qs. led end qs code) (drop_more ps i blank h))
    ∙ is
