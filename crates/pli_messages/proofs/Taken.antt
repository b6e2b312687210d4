-- Tokens taken one by one.
use Rattle.std.proofs.Common.{◌≡◌, ℕ, ◌+◌, ◌<◌, List, [], ◌∷◌, ◌++◌, true, length, take, drop, get_or, if◌then◌else◌}
use Rattle.std.proofs.Common.{Some, subst, sym, ap, ◌∙◌, add-one, drop-cons}
use Rattle.std.proofs.lemmas.List.{drop_all, take_more}
use Rattle.pli_declare.proofs.Chains.{drop_here}
use Rattle.pli_language.specs.declared.token.Kind.TheVariants as K
use Rattle.pli_language.specs.declared.token.Symbol.TheVariants as S
use Rattle.pli_language.specs.declared.token.Token.{Token}
use Rattle.pli_language.specs.Spells.{place_of}
use Rattle.pli_language.specs.declared.expr.Place.{Place}
use Rattle.std.specs.Prelude.{Option, Bool}
use Rattle.pli_messages.specs.Farthest.{goes_on, unread}

pub ruleset taken = (drop_here, drop_all, take_more)

abbrev any : Token
any = record { kind = K.Symbol S.Semicolon; start = 0; end = 0; line = 0; column = 0 }

-- a token that can stand behind those before it
unread_on : (s : List ℕ) (ts : List Token) (i : ℕ) (whole : Option Place) → i < length ts
    → goes_on s (take (i + 1) ts) ≡ true → unread s (take i ts) (drop i ts) ≡ whole
    → unread s (take (i + 1) ts) (drop (i + 1) ts) ≡ whole
unread_on s ts i whole below goes h =
    let t : Token = get_or ts i any in
    let rest : List Token = drop (i + 1) ts in
    let here : drop i ts ≡ t ∷ rest = drop-cons ts i any below ∙ ap (λ k. t ∷ drop k ts) (sym (add-one i)) in
    let front : take (i + 1) ts ≡ take i ts ++ t ∷ [] = take_more ts i any below in
    let on : goes_on s (take i ts ++ t ∷ []) ≡ true = ap (goes_on s) (sym front) ∙ goes in
    let further : List Token → Option Place = λ u. unread s u rest in
    let step : unread s (take i ts) (t ∷ rest) ≡ further (take i ts ++ t ∷ []) =
    ap (λ (b : Bool). if b then further (take i ts ++ t ∷ []) else Some (place_of t)) on in
    ap further front ∙ sym step ∙ ap (unread s (take i ts)) (sym here) ∙ h

-- the same, by a count that is the token's place
pub unread_more : (s : List ℕ) (ts : List Token) (n i : ℕ) (whole : Option Place) → n ≡ i → i < length ts
    → goes_on s (take (n + 1) ts) ≡ true → unread s (take n ts) (drop i ts) ≡ whole
    → unread s (take (n + 1) ts) (drop (i + 1) ts) ≡ whole
unread_more s ts n i whole e below goes h =
    subst (λ (k : ℕ). unread s (take (k + 1) ts) (drop (i + 1) ts) ≡ whole) (sym e)
    (unread_on s ts i whole below (subst (λ (k : ℕ). goes_on s (take (k + 1) ts) ≡ true) e goes)
    (subst (λ (k : ℕ). unread s (take k ts) (drop i ts) ≡ whole) e h))
