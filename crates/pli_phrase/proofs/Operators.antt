-- Operators and their levels.
use Rattle.std.specs.Prelude.{nat_le, if◌then◌else◌, ⊤}
use Rattle.std.proofs.Common.{◌≡◌, ℕ, zero, suc, ◌<◌, ◌≤◌, List, [], ◌∷◌, Option, Some, None, Bool, true, false, refl, sym, ap, ◌∙◌, subst, arith}
use Rattle.std.proofs.lemmas.Bool.{leb-true, leb-false, lt-leb}
use Rattle.pli_language.specs.declared.token.Symbol.TheVariants as S
use Rattle.pli_language.specs.declared.token.Kind.{Kind}
use Rattle.pli_language.specs.declared.token.Kind.TheVariants as K
use Rattle.pli_language.specs.declared.token.Token.{Token}
use Rattle.pli_language.specs.declared.expr.InfixOp.{InfixOp}
use Rattle.pli_language.specs.declared.expr.InfixOp.TheVariants as I
use Rattle.pli_language.specs.Spells as G
use Rattle.pli_language.specs.Spells.{next_kind, infix_op, below, Level, Multiplying, Adding, Joining, Comparing, Conjoining, Disjoining, SpellsAt, SpellsChain}
use Rattle.pli_language.specs.Tree as T
use Rattle.pli_phrase.specs.Reading.{infix_of, level_of, climbs, climbed, Frame, Before, Between, Group, Listing, Alone}

-- ---- levels

abbrev pub rank : Level → ℕ
rank Multiplying = 0
rank Adding = 1
rank Joining = 2
rank Comparing = 3
rank Conjoining = 4
rank Disjoining = 5

-- how many levels stand up to and with this one
abbrev pub height : Option Level → ℕ
height None = 0
height (Some l) = suc (rank l)

pub height_below : (l : Level) → height (below l) ≡ rank l
height_below Multiplying = refl
height_below Adding = refl
height_below Joining = refl
height_below Comparing = refl
height_below Conjoining = refl
height_below Disjoining = refl

abbrev pub level_at : ℕ → Level
level_at zero = Multiplying
level_at (suc zero) = Adding
level_at (suc (suc zero)) = Joining
level_at (suc (suc (suc zero))) = Comparing
level_at (suc (suc (suc (suc zero)))) = Conjoining
level_at (suc (suc (suc (suc (suc n))))) = Disjoining

level_rank : (l : Level) → level_at (rank l) ≡ l
level_rank Multiplying = refl
level_rank Adding = refl
level_rank Joining = refl
level_rank Comparing = refl
level_rank Conjoining = refl
level_rank Disjoining = refl

pub rank_one : (l l' : Level) → rank l ≡ rank l' → l ≡ l'
rank_one l l' e = sym (level_rank l) ∙ ap level_at e ∙ level_rank l'

-- ---- operators

-- an operator of a level
pub record OfLevel (l : Level) (k : Kind) (op : InfixOp) : Type 0 where
  pub is : infix_of k ≡ Some op
  pub level : level_of op ≡ rank l

pub of_level : (l : Level) (k : Kind) (op : InfixOp) → infix_op l (Some k) ≡ Some op → OfLevel l k op
of_level Multiplying (K.Symbol S.Times) op e = let h : I.Multiply ≡ op = cc (e) in record { is = ap Some h; level = ap level_of (sym h) }
of_level Multiplying (K.Symbol S.Divide) op e = let h : I.Divide ≡ op = cc (e) in record { is = ap Some h; level = ap level_of (sym h) }
of_level Adding (K.Symbol S.Plus) op e = let h : I.Add ≡ op = cc (e) in record { is = ap Some h; level = ap level_of (sym h) }
of_level Adding (K.Symbol S.Minus) op e = let h : I.Subtract ≡ op = cc (e) in record { is = ap Some h; level = ap level_of (sym h) }
of_level Joining (K.Symbol S.Join) op e = let h : I.Join ≡ op = cc (e) in record { is = ap Some h; level = ap level_of (sym h) }
of_level Comparing (K.Symbol S.Equal) op e = let h : I.Equal ≡ op = cc (e) in record { is = ap Some h; level = ap level_of (sym h) }
of_level Comparing (K.Symbol S.NotEqual) op e = let h : I.NotEqual ≡ op = cc (e) in record { is = ap Some h; level = ap level_of (sym h) }
of_level Comparing (K.Symbol S.Less) op e = let h : I.Less ≡ op = cc (e) in record { is = ap Some h; level = ap level_of (sym h) }
of_level Comparing (K.Symbol S.Greater) op e = let h : I.Greater ≡ op = cc (e) in record { is = ap Some h; level = ap level_of (sym h) }
of_level Comparing (K.Symbol S.LessOrEqual) op e = let h : I.LessOrEqual ≡ op = cc (e) in record { is = ap Some h; level = ap level_of (sym h) }
of_level Comparing (K.Symbol S.GreaterOrEqual) op e = let h : I.GreaterOrEqual ≡ op = cc (e) in record { is = ap Some h; level = ap level_of (sym h) }
of_level Conjoining (K.Symbol S.And) op e = let h : I.And ≡ op = cc (e) in record { is = ap Some h; level = ap level_of (sym h) }
of_level Disjoining (K.Symbol S.Or) op e = let h : I.Or ≡ op = cc (e) in record { is = ap Some h; level = ap level_of (sym h) }
of_level _ _ op e = absurd (cc e)

-- the level of an operator
pub record Levelled (k : Kind) (op : InfixOp) : Type 0 where
  pub level : Level
  pub is : infix_op level (Some k) ≡ Some op

pub levelled : (k : Kind) (op : InfixOp) → infix_of k ≡ Some op → Levelled k op
levelled (K.Symbol S.Times) op e = record { level = Multiplying; is = e }
levelled (K.Symbol S.Divide) op e = record { level = Multiplying; is = e }
levelled (K.Symbol S.Plus) op e = record { level = Adding; is = e }
levelled (K.Symbol S.Minus) op e = record { level = Adding; is = e }
levelled (K.Symbol S.Join) op e = record { level = Joining; is = e }
levelled (K.Symbol S.Equal) op e = record { level = Comparing; is = e }
levelled (K.Symbol S.NotEqual) op e = record { level = Comparing; is = e }
levelled (K.Symbol S.Less) op e = record { level = Comparing; is = e }
levelled (K.Symbol S.Greater) op e = record { level = Comparing; is = e }
levelled (K.Symbol S.LessOrEqual) op e = record { level = Comparing; is = e }
levelled (K.Symbol S.GreaterOrEqual) op e = record { level = Comparing; is = e }
levelled (K.Symbol S.And) op e = record { level = Conjoining; is = e }
levelled (K.Symbol S.Or) op e = record { level = Disjoining; is = e }
levelled _ op e = absurd (cc e)

abbrev pub infix_next : Option Kind → Option InfixOp
infix_next None = None
infix_next (Some k) = infix_of k

-- the levels below this number don't go on with the next token
abbrev pub Quiet : ℕ → Option Kind → Type 0
Quiet n k = (l : Level) → rank l < n → infix_op l k ≡ None

pub quiet_none : (k : Option Kind) → Quiet 0 k
quiet_none k l h = absurd (omega (arith, h))

either_level : (l level : Level) → rank l < suc (rank level) → (k : Option Kind) → Quiet (rank level) k → infix_op level k ≡ None → (t : Bool) → nat_le (rank level) (rank l) ≡ t → infix_op l k ≡ None
either_level l level h k q stop true e =
    let up : rank level ≤ rank l = leb-true (rank level) (rank l) e in
    let same : rank l ≡ rank level = omega (arith, h, up) in
    ap (λ v. infix_op v k) (rank_one l level same) ∙ stop
either_level l level h k q stop false e = q l (leb-false (rank level) (rank l) e)

pub quiet_more : (level : Level) (k : Option Kind) → Quiet (rank level) k → infix_op level k ≡ None → Quiet (suc (rank level)) k
quiet_more level k q stop l h = either_level l level h k q stop (nat_le (rank level) (rank l)) refl

-- ---- climbing

climbs_over : (op next : InfixOp) (k : Kind) → infix_of k ≡ Some next → Quiet (level_of op) (Some k) → (t : Bool) → nat_le (level_of op) (level_of next) ≡ t → t ≡ true
climbs_over op next k i q true e = refl
climbs_over op next k i q false e =
    let l = levelled k next i in
    let o = of_level l.level k next l.is in
    let low : level_of next < level_of op = leb-false (level_of op) (level_of next) e in
    let r : rank l.level < level_of op = omega (arith, low, o.level) in
    let n = q l.level r in
    let c : Some next ≡ None = sym l.is ∙ n in
    absurd (cc c)

climbs_kind : (op : InfixOp) (k : Kind) (next : Option InfixOp) → infix_of k ≡ next → Quiet (level_of op) (Some k) → climbs next op ≡ true
climbs_kind op k None i q = refl
climbs_kind op k (Some next) i q = climbs_over op next k i q (nat_le (level_of op) (level_of next)) refl

pub quiet_climbs : (op : InfixOp) (k : Option Kind) → Quiet (level_of op) k → climbs (infix_next k) op ≡ true
quiet_climbs op None q = refl
quiet_climbs op (Some k) q = climbs_kind op k (infix_of k) refl q

-- an operator of a level isn't taken as an operand's end by what is open
abbrev pub Stays : ℕ → List Frame → Type 0
Stays n [] = ⊤
Stays n (Before op p ∷ k) = ⊥
Stays n (Between op left ∷ k) = n < level_of op
Stays n (Group p ∷ k) = ⊤
Stays n (Listing path name es ∷ k) = ⊤
Stays n (Alone ∷ k) = ⊥

pub stays_lower : (n m : ℕ) (k : List Frame) → m ≤ n → Stays n k → Stays m k
stays_lower n m [] h s = tt
stays_lower n m (Before op p ∷ k) h s = absurd s
stays_lower n m (Between op left ∷ k) h s = omega (arith, h, s)
stays_lower n m (Group p ∷ k) h s = tt
stays_lower n m (Listing path name es ∷ k) h s = tt
stays_lower n m (Alone ∷ k) h s = absurd s

-- the same for any level
abbrev pub Fits : Option Level → List Frame → Type 0
Fits None k = ⊤
Fits (Some l) k = Stays (rank l) k

pub fits_lower : (level : Level) (k : List Frame) → Stays (rank level) k → Fits (below level) k
fits_lower Multiplying k s = tt
fits_lower Adding k s = stays_lower 1 0 k (omega arith) s
fits_lower Joining k s = stays_lower 2 1 k (omega arith) s
fits_lower Comparing k s = stays_lower 3 2 k (omega arith) s
fits_lower Conjoining k s = stays_lower 4 3 k (omega arith) s
fits_lower Disjoining k s = stays_lower 5 4 k (omega arith) s

pub fits_between : (level : Level) (op : InfixOp) (left : T.Expr) (k : List Frame) → level_of op ≡ rank level → Fits (below level) (Between op left ∷ k)
fits_between Multiplying op left k e = tt
fits_between Adding op left k e = omega (arith, e)
fits_between Joining op left k e = omega (arith, e)
fits_between Comparing op left k e = omega (arith, e)
fits_between Conjoining op left k e = omega (arith, e)
fits_between Disjoining op left k e = omega (arith, e)

pub climbed_stays : (op : InfixOp) (k : List Frame) (e : T.Expr) → Stays (level_of op) k → climbed (Some op) k e ≡ (k, e)
climbed_stays op [] e s = refl
climbed_stays op (Before o p ∷ k) e s = absurd s
climbed_stays op (Between o left ∷ k) e s =
    ap (λ b. if b then climbed (Some op) k (T.Infix o left e) else (Between o left ∷ k, e)) (lt-leb (level_of o) (level_of op) s)
climbed_stays op (Group p ∷ k) e s = refl
climbed_stays op (Listing path name es ∷ k) e s = refl
climbed_stays op (Alone ∷ k) e s = absurd s

-- ---- what stands behind an operand

mutual
  pub at_quiet : {s : List ℕ} {o : Option Level} {ts rest : List Token} {e : T.Expr} → SpellsAt s o ts e rest → Quiet (height o) (next_kind rest)
  at_quiet (G.chain level ts mid rest first e a c) =
      chain_quiet c (subst (λ n. Quiet n (next_kind mid)) (height_below level) (at_quiet a))
  at_quiet (G.prefixed ts after rest t op e is of b) = quiet_none (next_kind rest)
  at_quiet (G.primary ts rest e b) = quiet_none (next_kind rest)

  pub chain_quiet : {s : List ℕ} {level : Level} {left e : T.Expr} {ts rest : List Token} → SpellsChain s level left ts e rest → Quiet (rank level) (next_kind ts) → Quiet (suc (rank level)) (next_kind rest)
  chain_quiet (G.stops level e ts stop) q = quiet_more level (next_kind ts) q stop
  chain_quiet (G.goes_on level left right e ts after mid rest t op is of b c) q =
      chain_quiet c (subst (λ n. Quiet n (next_kind mid)) (height_below level) (at_quiet b))
