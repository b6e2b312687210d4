-- An expression weighs no more than its parentheses and arguments allow.
use Rattle.std.proofs.Common.{◌≡◌, ℕ, zero, suc, ◌+◌, ◌*◌, ◌<◌, ◌≤◌, max, ◌⊎◌, inl, inr, subst}
use Rattle.std.proofs.Common.{arith, mul-add, mul-le-mul_left, le_refl, eq-or-lt_of_le}
use Rattle.pli_language.specs.declared.expr.InfixOp.{InfixOp}
use Rattle.pli_language.specs.declared.expr.InfixOp.TheVariants as I
use Rattle.pli_language.specs.Tree as T
use Rattle.well_formed_trees.specs.Counted.{arguments_of, arguments_of_reference, arguments_of_qualified}
use Rattle.well_formed_trees.specs.Counted.{arguments_in, arguments_listed}
use Rattle.well_formed_trees.specs.Shallow.{Opens, OpensReference, OpensQualified, OpensArguments, OpensExprs}
use Rattle.well_formed_trees.specs.Spelled.{reach_of, reach, RangedExpr, RangedReference, RangedQualified}
use Rattle.well_formed_trees.specs.Spelled.{RangedArguments, RangedExprs}
use Rattle.small_frames.specs.Weights.{reach_words, right_words, listed_count, argument_count, qualified_count, weight}
use Rattle.small_frames.specs.Weights.{reference_weight, heaviest, heaviest_in, heaviest_of, waiting}
use Rattle.small_frames.specs.Weights.{WeightsLimited, ReferencesLimited, ArgumentsLimited}

-- ---- operators

at_least : {a b : ℕ} (c : ℕ) → a ≤ b → a ≤ c + b
at_least c h = omega (arith, h)

waiting_more : (n m : ℕ) → n ≤ m → waiting n ≤ waiting m
waiting_more zero zero h = le_refl 0
waiting_more (suc n) zero h = absurd (omega (arith, h))
waiting_more n (suc m) h = by (eq-or-lt_of_le h) (λ l. waiting_more n m l) where
  by : (n ≡ suc m) ⊎ (n < suc m) → (n ≤ m → waiting n ≤ waiting m) → waiting n ≤ waiting (suc m)
  by (inl e) k = subst (λ x. waiting n ≤ waiting x) e (le_refl (waiting n))
  by (inr l) k = at_least (reach_words (suc m)) (k (omega (arith, l)))

-- what binds closer leaves room for what waits on the left
closer : (n r : ℕ) → n < r → reach_words r + waiting n ≤ waiting r
closer n zero h = absurd (omega (arith, h))
closer n (suc r) h = let more = waiting_more n r (omega (arith, h)) in omega (arith, more)

op_reach : (op : InfixOp) → reach_of op ≤ 6
op_reach I.Multiply = omega arith
op_reach I.Divide = omega arith
op_reach I.Add = omega arith
op_reach I.Subtract = omega arith
op_reach I.Join = omega arith
op_reach I.Equal = omega arith
op_reach I.NotEqual = omega arith
op_reach I.Less = omega arith
op_reach I.Greater = omega arith
op_reach I.LessOrEqual = omega arith
op_reach I.GreaterOrEqual = omega arith
op_reach I.And = omega arith
op_reach I.Or = omega arith

expr_reach : (e : T.Expr) → reach e ≤ 6
expr_reach (T.Prefix op e place) = expr_reach e
expr_reach (T.Infix op left right) =
    let one = op_reach op in
    let more = expr_reach left in
    omega (arith, one, more)
expr_reach (T.Number n place) = omega arith
expr_reach (T.Text t place) = omega arith
expr_reach (T.Bit b place) = omega arith
expr_reach (T.Parenthesized e place) = omega arith
expr_reach (T.Refers r) = omega arith

expr_waiting : (e : T.Expr) → waiting (reach e) ≤ 8
expr_waiting e = waiting_more (reach e) 6 (expr_reach e)

-- ---- an expression in so many parentheses, each of which takes 13 words

operated : (l r o a b c d n x : ℕ) → l + 13 * n ≤ (421 + a) + x → r + 13 * n ≤ (421 + b) + d → a ≤ c → o + b ≤ c
    → max l (o + r) + 13 * n ≤ (421 + c) + (x + d)
operated l r o a b c d n x h k i j = omega (arith, h, k, i, j)

-- there are no more names' arguments than arguments with those in them
counted_at_most : (es : T.Exprs) → listed_count es ≤ arguments_listed es
counted_at_most T.NoExpr = omega arith
counted_at_most (T.ExprThen e es) = let more = counted_at_most es in omega (arith, more)

in_at_most : (a : T.Arguments) → argument_count a ≤ arguments_in a
in_at_most T.Absent = omega arith
in_at_most (T.Listed es) = counted_at_most es

qualified_at_most : (q : T.Qualified) → qualified_count q ≤ arguments_of_qualified q
qualified_at_most (T.Last name a) = in_at_most a
qualified_at_most (T.Of name a rest) =
    let one = in_at_most a in
    let more = qualified_at_most rest in
    omega (arith, one, more)

-- with c for each argument
one_more : (w h c ca cb ck n : ℕ) → w + 13 * suc n ≤ (421 + 8) + ca → h + (ck + 13 * n) ≤ 416 + cb → ck ≤ cb
    → max w h + ((c + ck) + 13 * n) ≤ 416 + ((c + ca) + cb)
one_more w h c ca cb ck n a b l = omega (arith, a, b, l)

mutual
  limited : (c n : ℕ) → n ≤ 32 → (e : T.Expr) → Opens n e → RangedExpr e
      → weight c e + 13 * n ≤ (421 + waiting (reach e)) + c * arguments_of e
  limited c n d (T.Number v place) o r = omega (arith, d)
  limited c n d (T.Text t place) o r = omega (arith, d)
  limited c n d (T.Bit b place) o r = omega (arith, d)
  limited c n d (T.Parenthesized e place) o r =
      let most = expr_waiting e in
      let inner = limited c (suc n) o.0 e o.1 r in
      omega (arith, most, inner)
  limited c n d (T.Prefix op e place) o r = limited c n d e o r
  limited c n d (T.Infix op left right) o r =
      let all = mul-add c (arguments_of left) (arguments_of right) in
      let bind = waiting_more (reach left) (reach (T.Infix op left right)) (omega arith) in
      let own = closer (reach right) (reach_of op) r.1.1 in
      let wide = waiting_more (reach_of op) (reach (T.Infix op left right)) (omega arith) in
      let both = operated (weight c left) (weight c right) (right_words op) (waiting (reach left))
      (waiting (reach right)) (waiting (reach (T.Infix op left right))) (c * arguments_of right) n
      (c * arguments_of left) (limited c n d left o.0 r.0) (limited c n d right o.1 r.1.0) bind
      (omega (arith, own, wide)) in
      omega (arith, both, all)
  limited c n d (T.Refers r) o k = reference_limited c n d r o k

  reference_limited : (c n : ℕ) → n ≤ 32 → (r : T.Reference) → OpensReference n r → RangedReference r
      → reference_weight c r + 13 * n ≤ 421 + c * arguments_of_reference r
  reference_limited c n d (T.Plain q) o r = let h = qualified_limited c n d q o r in omega (arith, h)
  reference_limited c n d (T.Located l q) o r =
      let all = mul-add c (arguments_of_reference l) (arguments_of_qualified q) in
      let h = reference_limited c n d l o.0 r.0 in
      let k = qualified_limited c n d q o.1 r.1 in
      omega (arith, all, h, k)

  qualified_limited : (c n : ℕ) → n ≤ 32 → (q : T.Qualified) → OpensQualified n q → RangedQualified q
      → heaviest c q + (c * qualified_count q + 13 * n) ≤ 416 + c * arguments_of_qualified q
  qualified_limited c n d (T.Last name a) o r = arguments_limited c n d a o r
  qualified_limited c n d (T.Of name a rest) o r =
      let all = mul-add c (arguments_in a) (arguments_of_qualified rest) in
      let many = mul-add c (argument_count a) (qualified_count rest) in
      let h = arguments_limited c n d a o.0 r.0 in
      let k = qualified_limited c n d rest o.1 r.1 in
      let one = mul-le-mul_left c (in_at_most a) in
      let more = mul-le-mul_left c (qualified_at_most rest) in
      omega (arith, all, many, h, k, one, more)

  arguments_limited : (c n : ℕ) → n ≤ 32 → (a : T.Arguments) → OpensArguments n a → RangedArguments a
      → heaviest_in c a + (c * argument_count a + 13 * n) ≤ 416 + c * arguments_in a
  arguments_limited c n d T.Absent o r = omega (arith, d)
  arguments_limited c n d (T.Listed es) o r = exprs_limited c n o.0 es o.1 r

  exprs_limited : (c n : ℕ) → n < 32 → (es : T.Exprs) → OpensExprs (suc n) es → RangedExprs es
      → heaviest_of c es + (c * listed_count es + 13 * n) ≤ 416 + c * arguments_listed es
  exprs_limited c n d T.NoExpr o r = omega (arith, d)
  exprs_limited c n d (T.ExprThen e es) o r =
      let w = limited c (suc n) d e o.0 r.0 in
      let most = expr_waiting e in
      let h = exprs_limited c n d es o.1 r.1 in
      let few = mul-le-mul_left c (counted_at_most es) in
      let here = one_more (weight c e) (heaviest_of c es) c (c * arguments_of e) (c * arguments_listed es)
      (c * listed_count es) n (omega (arith, w, most)) h few in
      let all = mul-add c (1 + arguments_of e) (arguments_listed es) in
      let own = mul-add c 1 (arguments_of e) in
      omega (arith, here, all, own)

-- ---- outside of all parentheses

pub weights_limited : WeightsLimited
weights_limited c e o r =
    let most = expr_waiting e in
    let h = limited c 0 (omega arith) e o r in
    omega (arith, most, h)

pub references_limited : ReferencesLimited
references_limited c r o k = let h = reference_limited c 0 (omega arith) r o k in omega (arith, h)

pub arguments_all_limited : ArgumentsLimited
arguments_all_limited c a o r = let h = arguments_limited c 0 (omega arith) a o r in omega (arith, h)
