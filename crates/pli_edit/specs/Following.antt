-- Streams that come of one another by reads.
use Rattle.std.proofs.Common.{◌≡◌, ℕ, Bool, true, false, List, [], ◌∷◌, ◌++◌, refl, sym, ap, subst, ◌∙◌}
use Rattle.pli_edit.specs.Feeding.{Fed, Reading, Reads, gained, Agrees, is_broken}
use Rattle.pli_edit.specs.Streams.{Held, Follows, has_failed}
use Rattle.pli_edit.specs.ReadChains.{agree_back, reads_append, reads_shift}

pub follows_none : (a : Held) → Follows a a
follows_none a = ([], refl)

pub follows_then : (a b c : Held) → Follows a b → Follows b c → Follows a c
follows_then a b c h k = (
  h.0 ++ k.0,
  reads_append (λ _. true) [] h.0 k.0 a.marked.fed b.marked.fed c.marked.fed h.1
      (reads_shift (λ _. true) (λ _. true) [] ([] ++ gained h.0) k.0 b.marked.fed c.marked.fed (λ _ _ _. refl) k.1),
)

pub agreed_before : (a b : Held) (all : List ℕ) → Follows a b → Agrees b.marked.fed all → Agrees a.marked.fed all
agreed_before a b all h g = (agree_back (λ _. true) [] h.0 a.marked.fed b.marked.fed all h.1 g).0

abbrev IsNot : Bool → Type 0
IsNot false = Unit {0}
IsNot true = ⊥

broken_on : (p : List ℕ) (rs : List Reading) (a b : Fed) → Reads (λ _. true) p rs a b → is_broken a.standing ≡ true →
    is_broken b.standing ≡ true
broken_on p [] a b h e = ap (λ (f : Fed). is_broken f.standing) h ∙ e
broken_on p (r ∷ rs) a b h e = absurd (subst IsNot (sym (ap is_broken h.1) ∙ e) tt)

pub broken_stays : (a b : Held) → Follows a b → has_failed a ≡ true → has_failed b ≡ true
broken_stays a b h e = broken_on [] h.0 a.marked.fed b.marked.fed h.1 e
