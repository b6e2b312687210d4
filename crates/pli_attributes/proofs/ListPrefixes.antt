-- What reading tells of the beginnings of lists, and of what may stand in parentheses.
use Rattle.std.specs.Prelude.{if◌then◌else◌}
use Rattle.std.proofs.Common.{◌≡◌, ℕ, suc, ◌≤◌, List, [], ◌∷◌, length, Bool, true, false, Ok, Err, refl}
use Rattle.pli_language.specs.declared.token.Symbol.TheVariants as S
use Rattle.pli_language.specs.declared.token.Kind.TheVariants as K
use Rattle.pli_language.specs.declared.token.Token.{Token}
use Rattle.pli_phrase.specs.Cursor.{Cursor, Read, ◌>>=◌}
use Rattle.pli_phrase.specs.Tokens.{begins, taken}
use Rattle.pli_phrase.proofs.PhrasePrefixes.{prefix_symbol, prefix_when}
use Rattle.pli_phrase.proofs.Prefixes.{Prefixes, StartsNot, Next, Any, prefix_ok, prefix_as, prefix_bind, steady}
use Rattle.pli_phrase.proofs.RepeatPrefixes.{goes_on, Repeats, prefix_repeats}
use Rattle.pli_attributes.specs.Lists.{One, enclosed_from, optional_from, further_from, list_at, list_from}

-- ---- parentheses

-- a closing parenthesis may stand behind what stands in the parentheses
pub prefix_enclosed : {X : Type 0} {P F : List Token → Type 0} (inner : Cursor → Read X) → Prefixes P F inner → ((w : List Token) → Next (K.Symbol S.CloseParenthesis) w → F w) → Prefixes (Next (K.Symbol S.OpenParenthesis)) Any (enclosed_from inner)
prefix_enclosed inner p close =
    prefix_bind (taken (K.Symbol S.OpenParenthesis)) (λ t. inner t.1 >>= λ x. taken (K.Symbol S.CloseParenthesis) x.1 >>= λ u. Ok (x.0, u.1)) (prefix_symbol S.OpenParenthesis)
    (λ t. prefix_bind inner (λ x. taken (K.Symbol S.CloseParenthesis) x.1 >>= λ u. Ok (x.0, u.1)) p
    (λ x. prefix_bind (taken (K.Symbol S.CloseParenthesis)) (λ u. Ok (x, u.1)) (prefix_symbol S.CloseParenthesis) (λ u. prefix_ok x) (λ w h. tt))
    close)
    (λ w h. tt)

-- behind it no open parenthesis may stand
pub prefix_optional : {X : Type 0} {P Fi F : List Token → Type 0} (absent : X) (inner : Cursor → Read X) → Prefixes P Fi inner → ((w : List Token) → Next (K.Symbol S.CloseParenthesis) w → Fi w) → ((w : List Token) → F w → StartsNot (K.Symbol S.OpenParenthesis) w) → Prefixes F F (optional_from absent inner)
prefix_optional {F = F} absent inner p close stop =
    prefix_when (K.Symbol S.OpenParenthesis) (enclosed_from inner) (λ c. Ok (absent, c)) (steady (prefix_as {F' = F} (λ w h. tt) (λ w h. h) (prefix_enclosed inner p close))) (prefix_ok absent) stop

-- ---- lists

-- the same parts, in another order
abbrev with_front : {X : Type 0} → X → List X × Cursor → Read (List X)
with_front x xs = Ok (x ∷ xs.0, xs.1)

parts_moved : {X : Type 0} (b : Bool) (x : X) (a : Read Token) (more : Cursor → Read (List X)) (c : Cursor) → ((if b then (a >>= λ comma. more comma.1) else Ok ([], c)) >>= with_front x) ≡ (if b then (a >>= λ comma. more comma.1 >>= with_front x) else with_front x ([], c))
parts_moved true x (Ok comma) more c = refl
parts_moved true x (Err e) more c = refl
parts_moved false x a more c = refl

element_moved : {X : Type 0} (a : Read X) (f g : X × Cursor → Read (List X)) → ((x : X × Cursor) → f x ≡ g x) → (a >>= f) ≡ (a >>= g)
element_moved (Ok x) f g h = h x
element_moved (Err e) f g h = refl

list_next : {X : Type 0} (one : One X) (n before : ℕ) (c : Cursor) → list_at one (suc n) before c ≡ (one before c >>= λ x. goes_on (list_at one n (suc before)) (x.0 ∷ []) (λ xs. x.0 ∷ xs) x.1)
unfolding list_at
list_next one n before c =
    element_moved (one before c) (λ x. further_from (list_at one n (suc before)) x.1 >>= λ xs. Ok (x.0 ∷ xs.0, xs.1)) (λ x. goes_on (list_at one n (suc before)) (x.0 ∷ []) (λ xs. x.0 ∷ xs) x.1) (λ x. parts_moved (begins (K.Symbol S.Comma) x.1) x.0 (taken (K.Symbol S.Comma) x.1) (list_at one n (suc before)) x.1)

list_repeats : {X : Type 0} (one : One X) → ((before : ℕ) (c : Cursor) (x : X × Cursor) → one before c ≡ Ok x → length x.1.tokens ≤ length c.tokens) → Repeats one (list_at one)
list_repeats one no_longer =
    record {
      next = λ before x. suc before;
      last = λ before x. x ∷ [];
      joins = λ before x xs. x ∷ xs;
      is = list_next one;
      no_longer = no_longer;
    }

-- one element or more; behind it what may stand behind an element, and no comma
pub prefix_list : {X : Type 0} {P Fe F : List Token → Type 0} (one : One X) → ((before : ℕ) (c : Cursor) (x : X × Cursor) → one before c ≡ Ok x → length x.1.tokens ≤ length c.tokens) → ((before : ℕ) → Prefixes P Fe (one before)) → ((w : List Token) → F w → Fe w × StartsNot (K.Symbol S.Comma) w) → Prefixes P F (list_from one)
unfolding list_from
prefix_list one no_longer p ends = prefix_repeats one (list_at one) (list_repeats one no_longer) p ends 0
