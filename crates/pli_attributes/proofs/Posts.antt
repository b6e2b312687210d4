-- What holds behind a reader, or where it leaves out: each lemma is a step from a reader's parts to the reader.
use Rattle.std.proofs.Common.{◌≡◌, Ok, Err, Bool, true, false, refl, subst}
use Rattle.std.specs.Prelude.{if◌then◌else◌}
use Rattle.pli_phrase.specs.Cursor.{Cursor, Stuck, Ended, LeavesOut, Read, ◌>>=◌}

abbrev post_of : {X : Type 0} → (X × Cursor → Type 0) → (Cursor → Type 0) → Read X → Type 0
post_of P L (Ok x) = P x
post_of P L (Err Stuck) = Unit {0}
post_of P L (Err Ended) = Unit {0}
post_of P L (Err (LeavesOut c)) = L c

-- P holds of what is read, and L of the place where something is left out
pub record Post {X : Type 0} (P : X × Cursor → Type 0) (L : Cursor → Type 0) (r : Read X) : Type 0 where
  pub holds : post_of P L r

pub post_ok : {X : Type 0} {P : X × Cursor → Type 0} {L : Cursor → Type 0} {x : X × Cursor} → P x → Post P L (Ok x)
post_ok h = record { holds = h }

pub post_stuck : {X : Type 0} {P : X × Cursor → Type 0} {L : Cursor → Type 0} → Post P L (Err Stuck)
post_stuck = record { holds = tt }

pub post_ended : {X : Type 0} {P : X × Cursor → Type 0} {L : Cursor → Type 0} → Post P L (Err Ended)
post_ended = record { holds = tt }

pub post_left : {X : Type 0} {P : X × Cursor → Type 0} {L : Cursor → Type 0} {c : Cursor} → L c → Post P L (Err (LeavesOut c))
post_left h = record { holds = h }

pub post_bind : {A B : Type 0} {P : A × Cursor → Type 0} {Q : B × Cursor → Type 0} {L : Cursor → Type 0} (r : Read A) (f : A × Cursor → Read B) → Post P L r → ((x : A × Cursor) → P x → Post Q L (f x)) → Post Q L (r >>= f)
post_bind (Ok x) f h k = k x h.holds
post_bind (Err Stuck) f h k = record { holds = tt }
post_bind (Err Ended) f h k = record { holds = tt }
post_bind (Err (LeavesOut c)) f h k = record { holds = h.holds }

pub post_if : {X : Type 0} {P : X × Cursor → Type 0} {L : Cursor → Type 0} (b : Bool) (p q : Read X) → (b ≡ true → Post P L p) → (b ≡ false → Post P L q) → Post P L (if b then p else q)
post_if true p q h k = h refl
post_if false p q h k = k refl

pub post_weaken : {X : Type 0} {P Q : X × Cursor → Type 0} {L M : Cursor → Type 0} (r : Read X) → Post P L r → ((x : X × Cursor) → P x → Q x) → ((c : Cursor) → L c → M c) → Post Q M r
post_weaken (Ok x) h k l = record { holds = k x h.holds }
post_weaken (Err Stuck) h k l = record { holds = tt }
post_weaken (Err Ended) h k l = record { holds = tt }
post_weaken (Err (LeavesOut c)) h k l = record { holds = l c h.holds }

pub post_is : {X : Type 0} {P : X × Cursor → Type 0} {L : Cursor → Type 0} {r : Read X} {x : X × Cursor} → Post P L r → r ≡ Ok x → P x
post_is {P = P} {L = L} h e = subst (λ u. post_of P L u) e h.holds

pub post_leaves : {X : Type 0} {P : X × Cursor → Type 0} {L : Cursor → Type 0} {r : Read X} {c : Cursor} → Post P L r → r ≡ Err (LeavesOut c) → L c
post_leaves {P = P} {L = L} h e = subst (λ u. post_of P L u) e h.holds

-- nothing is left out
abbrev pub Never : Cursor → Type 0
Never c = ⊥

pub never : (L : Cursor → Type 0) {X : Type 0} {P : X × Cursor → Type 0} (r : Read X) → Post P Never r → Post P L r
never L r h = post_weaken r h (λ x p. p) (λ c l. absurd l)

pub post_from : {X : Type 0} {P : X × Cursor → Type 0} {L : Cursor → Type 0} (r : Read X) → ((x : X × Cursor) → r ≡ Ok x → P x) → ((d : Cursor) → r ≡ Err (LeavesOut d) → L d) → Post P L r
post_from (Ok x) h l = record { holds = h x refl }
post_from (Err Stuck) h l = record { holds = tt }
post_from (Err Ended) h l = record { holds = tt }
post_from (Err (LeavesOut c)) h l = record { holds = l c refl }
