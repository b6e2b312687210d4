-- Expressions that fitting tokens spell are in range, and what stands behind them fits.
use Rattle.std.proofs.Common.{◌≡◌, ℕ, ◌<◌, ◌≤◌, max, List, Option, Some, None, refl, subst, arith}
use Rattle.pli_language.specs.declared.expr.InfixOp.{InfixOp}
use Rattle.pli_language.specs.declared.token.Kind.{Kind}
use Rattle.pli_language.specs.declared.token.Kind.TheVariants as K
use Rattle.pli_language.specs.declared.token.Symbol.TheVariants as S
use Rattle.pli_language.specs.declared.token.Token.{Token}
use Rattle.pli_language.specs.Spells as L
use Rattle.pli_language.specs.Spells.{Level, infix_op, below, SpellsAt, SpellsChain, SpellsPrimary, SpellsReference}
use Rattle.pli_language.specs.Spells.{SpellsArrows}
use Rattle.pli_language.specs.Spells.{SpellsQualified, SpellsArguments, SpellsExprs, SpellsCount}
use Rattle.pli_language.specs.Tree as T
use Rattle.well_formed_trees.specs.Spelled.{reach_of, reach, RangedExpr, RangedReference, RangedQualified}
use Rattle.well_formed_trees.specs.Spelled.{RangedArguments, RangedExprs}
use Rattle.well_formed_trees.proofs.Places.{same_some}
use Rattle.well_formed_trees.proofs.TokensFit.{AllFit, first_fits, behind, number_fits, text_fits}

-- ---- operators

abbrev reach_at : Option Level → ℕ
reach_at None = 0
reach_at (Some L.Multiplying) = 1
reach_at (Some L.Adding) = 2
reach_at (Some L.Joining) = 3
reach_at (Some L.Comparing) = 4
reach_at (Some L.Conjoining) = 5
reach_at (Some L.Disjoining) = 6

below_closer : (level : Level) → reach_at (below level) < reach_at (Some level)
below_closer L.Multiplying = omega arith
below_closer L.Adding = omega arith
below_closer L.Joining = omega arith
below_closer L.Comparing = omega arith
below_closer L.Conjoining = omega arith
below_closer L.Disjoining = omega arith

reaches : (n : ℕ) (o op : InfixOp) → Some o ≡ Some op → reach_of o ≡ n → reach_of op ≡ n
reaches n o op e h = subst (λ x. reach_of x ≡ n) (same_some o op e) h

op_reaches : (level : Level) (k : Option Kind) (op : InfixOp) → infix_op level k ≡ Some op
    → reach_of op ≡ reach_at (Some level)
op_reaches L.Multiplying (Some (K.Symbol S.Times)) op e = reaches 1 _ op e refl
op_reaches L.Multiplying (Some (K.Symbol S.Divide)) op e = reaches 1 _ op e refl
op_reaches L.Adding (Some (K.Symbol S.Plus)) op e = reaches 2 _ op e refl
op_reaches L.Adding (Some (K.Symbol S.Minus)) op e = reaches 2 _ op e refl
op_reaches L.Joining (Some (K.Symbol S.Join)) op e = reaches 3 _ op e refl
op_reaches L.Comparing (Some (K.Symbol S.Equal)) op e = reaches 4 _ op e refl
op_reaches L.Comparing (Some (K.Symbol S.NotEqual)) op e = reaches 4 _ op e refl
op_reaches L.Comparing (Some (K.Symbol S.Less)) op e = reaches 4 _ op e refl
op_reaches L.Comparing (Some (K.Symbol S.Greater)) op e = reaches 4 _ op e refl
op_reaches L.Comparing (Some (K.Symbol S.LessOrEqual)) op e = reaches 4 _ op e refl
op_reaches L.Comparing (Some (K.Symbol S.GreaterOrEqual)) op e = reaches 4 _ op e refl
op_reaches L.Conjoining (Some (K.Symbol S.And)) op e = reaches 5 _ op e refl
op_reaches L.Disjoining (Some (K.Symbol S.Or)) op e = reaches 6 _ op e refl
op_reaches _ _ op e = absurd (cc e)

primary_reach : {s : List ℕ} {ts rest : List Token} {e : T.Expr} → SpellsPrimary s ts e rest → reach e ≤ 0
primary_reach (L.number ts rest t n taken) = omega arith
primary_reach (L.text ts rest t v taken spelled) = omega arith
primary_reach (L.bit ts rest t b taken) = omega arith
primary_reach (L.parenthesized ts after mid rest t u e opened sp closed) = omega arith
primary_reach (L.reference ts rest r sp) = omega arith

at_most : (a b n : ℕ) → a ≤ n → b ≤ n → max a b ≤ n
at_most a b n h k = omega (arith, h, k)

mutual
  expr_reach : {s : List ℕ} {level : Option Level} {ts rest : List Token} {e : T.Expr} → SpellsAt s level ts e rest
      → reach e ≤ reach_at level
  expr_reach (L.chain level ts mid rest first e sp more) =
      let one = expr_reach sp in
      let closer = below_closer level in
      chain_reach more (omega (arith, one, closer))
  expr_reach (L.prefixed ts after rest t op e is op_is sp) = expr_reach sp
  expr_reach (L.primary ts rest e sp) = primary_reach sp

  chain_reach : {s : List ℕ} {level : Level} {ts rest : List Token} {left e : T.Expr}
      → SpellsChain s level left ts e rest
      → reach left ≤ reach_at (Some level) → reach e ≤ reach_at (Some level)
  chain_reach (L.stops level e ts none) l = l
  chain_reach (L.goes_on level left right e ts after mid rest t op is op_is sp more) l =
      let own = op_reaches level (Some t.kind) op op_is in
      chain_reach more (at_most (reach_of op) (reach left) (reach_at (Some level)) (omega (arith, own)) l)

-- what is right of an operator binds closer than it
right_closer : {s : List ℕ} {ts rest : List Token} {right : T.Expr} (level : Level) (k : Option Kind) (op : InfixOp)
    → infix_op level k ≡ Some op → SpellsAt s (below level) ts right rest → reach right < reach_of op
right_closer level k op e sp =
    let own = op_reaches level k op e in
    let one = expr_reach sp in
    let closer = below_closer level in
    omega (arith, own, one, closer)

-- ---- expressions

mutual
  pub expr_fits : {s : List ℕ} {all : List Token} {level : Option Level} {ts rest : List Token} {e : T.Expr}
      → SpellsAt s level ts e rest
      → AllFit s all ts → RangedExpr e × AllFit s all rest
  expr_fits (L.chain level ts mid rest first e sp more) h =
      let a = expr_fits sp h in
      chain_fits more a.0 a.1
  expr_fits (L.prefixed ts after rest t op e is op_is sp) h = expr_fits sp (first_fits is h).1
  expr_fits (L.primary ts rest e sp) h = primary_fits sp h

  chain_fits : {s : List ℕ} {all : List Token} {level : Level} {ts rest : List Token} {left e : T.Expr}
      → SpellsChain s level left ts e rest → RangedExpr left → AllFit s all ts → RangedExpr e × AllFit s all rest
  chain_fits (L.stops level e ts none) l h = (l, h)
  chain_fits (L.goes_on level left right e ts after mid rest t op is op_is sp more) l h =
      let a = expr_fits sp (first_fits is h).1 in
      chain_fits more (l, (a.0, right_closer level (Some t.kind) op op_is sp)) a.1

  primary_fits : {s : List ℕ} {all ts rest : List Token} {e : T.Expr} → SpellsPrimary s ts e rest
      → AllFit s all ts
      → RangedExpr e × AllFit s all rest
  primary_fits (L.number ts rest t n taken) h = (number_fits taken h, behind taken h)
  primary_fits (L.text ts rest t v taken spelled) h = (text_fits taken spelled h, behind taken h)
  primary_fits (L.bit ts rest t b taken) h = (tt, behind taken h)
  primary_fits (L.parenthesized ts after mid rest t u e opened sp closed) h =
      let a = expr_fits sp (behind opened h) in
      (a.0, behind closed a.1)
  primary_fits (L.reference ts rest r sp) h = reference_fits sp h

  pub reference_fits : {s : List ℕ} {all ts rest : List Token} {r : T.Reference}
      → SpellsReference s ts r rest → AllFit s all ts
      → RangedReference r × AllFit s all rest
  reference_fits (L.basic ts mid rest q r sp more) h =
      let a = qualified_fits sp h in
      arrows_fit more a.0 a.1

  arrows_fit : {s : List ℕ} {all ts rest : List Token} {locator r : T.Reference}
      → SpellsArrows s locator ts r rest
      → RangedReference locator → AllFit s all ts → RangedReference r × AllFit s all rest
  arrows_fit (L.no_arrow r ts none) l h = (l, h)
  arrows_fit (L.arrow locator r ts after mid rest t q taken sp more) l h =
      let a = qualified_fits sp (behind taken h) in
      arrows_fit more (l, a.0) a.1

  qualified_fits : {s : List ℕ} {all ts rest : List Token} {q : T.Qualified}
      → SpellsQualified s ts q rest → AllFit s all ts
      → RangedQualified q × AllFit s all rest
  qualified_fits (L.last ts after rest t word a taken sp none) h = arguments_fit sp (behind taken h)
  qualified_fits (L.of ts after mid point rest t u word a q taken sp pointed more) h =
      let b = arguments_fit sp (behind taken h) in
      let d = qualified_fits more (behind pointed b.1) in
      ((b.0, d.0), d.1)

  pub arguments_fit : {s : List ℕ} {all ts rest : List Token} {a : T.Arguments}
      → SpellsArguments s ts a rest → AllFit s all ts
      → RangedArguments a × AllFit s all rest
  arguments_fit (L.absent ts none) h = (tt, h)
  arguments_fit (L.empty ts mid rest t u opened closed) h = (tt, behind closed (behind opened h))
  arguments_fit (L.listed ts after mid rest t u es opened some sp closed) h =
      let a = exprs_fit sp (behind opened h) in
      (a.0, behind closed a.1)

  pub exprs_fit : {s : List ℕ} {all ts rest : List Token} {es : T.Exprs} → SpellsExprs s ts es rest
      → AllFit s all ts
      → RangedExprs es × AllFit s all rest
  exprs_fit (L.one ts rest e sp none) h =
      let a = expr_fits sp h in
      ((a.0, tt), a.1)
  exprs_fit (L.more ts mid after rest t e es sp taken others) h =
      let a = expr_fits sp h in
      let b = exprs_fit others (behind taken a.1) in
      ((a.0, b.0), b.1)

-- ---- numbers in parentheses

pub count_fits : {s : List ℕ} {all ts rest : List Token} {n : ℕ} → SpellsCount ts n rest
    → AllFit s all ts → AllFit s all rest
count_fits c h = behind c.closed (behind c.counted (behind c.opened h))
