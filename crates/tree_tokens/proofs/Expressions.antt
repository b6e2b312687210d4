-- The tokens that expressions are spelled with.
use Rattle.std.proofs.Common.{◌≡◌, ℕ, suc, ◌+◌, ◌≤◌, List, [], ◌∷◌, Option, length, ap, arith}
use Rattle.pli_language.specs.declared.token.Kind.{Kind}
use Rattle.pli_language.specs.declared.token.Token.{Token}
use Rattle.pli_language.specs.Spells as L
use Rattle.pli_language.specs.Spells.{Takes, Level, SpellsAt, SpellsChain, SpellsPrimary, SpellsReference, SpellsArrows}
use Rattle.pli_language.specs.Spells.{SpellsQualified, SpellsArguments, SpellsExprs, SpellsCount}
use Rattle.pli_language.specs.Tree as T
use Rattle.tree_tokens.specs.TreeTokens.{expr_tokens, reference_tokens, qualified_tokens, arguments_tokens}
use Rattle.tree_tokens.specs.TreeTokens.{exprs_tokens}
use Rattle.tree_tokens.specs.TreeTokens.{further_tokens}

-- ---- one token

pub taken : {ts : List Token} {kind : Kind} {t : Token} {rest : List Token} → Takes ts kind t rest
    → length ts ≡ suc (length rest)
taken h = ap length h.is

pub first : {ts : List Token} {t : Token} {rest : List Token} → ts ≡ t ∷ rest → length ts ≡ suc (length rest)
first h = ap length h

pub counted : {ts : List Token} {n : ℕ} {rest : List Token} → SpellsCount ts n rest
    → length ts ≡ 3 + length rest
counted h =
    let a = taken h.opened in
    let b = taken h.counted in
    let c = taken h.closed in
    omega (arith, a, b, c)

-- ---- expressions

list_most : (e : T.Expr) (es : T.Exprs) → exprs_tokens (T.ExprThen e es) ≤ expr_tokens e + (1 + exprs_tokens es)
list_most e T.NoExpr = omega arith
list_most e (T.ExprThen x xs) = omega arith

mutual
  pub expr_spelled : {s : List ℕ} {level : Option Level} {ts rest : List Token} {e : T.Expr}
      → SpellsAt s level ts e rest → expr_tokens e + length rest ≤ length ts
  expr_spelled (L.chain level ts mid rest x e sp more) =
      let a = expr_spelled sp in
      let b = chain_spelled more in
      omega (arith, a, b)
  expr_spelled (L.prefixed ts after rest t op e is op_is sp) =
      let a = first is in
      let b = expr_spelled sp in
      omega (arith, a, b)
  expr_spelled (L.primary ts rest e sp) = primary_spelled sp

  chain_spelled : {s : List ℕ} {level : Level} {ts rest : List Token} {left e : T.Expr}
      → SpellsChain s level left ts e rest → expr_tokens e + length rest ≤ expr_tokens left + length ts
  chain_spelled (L.stops level e ts none) = omega arith
  chain_spelled (L.goes_on level left right e ts after mid rest t op is op_is sp more) =
      let a = first is in
      let b = expr_spelled sp in
      let c = chain_spelled more in
      omega (arith, a, b, c)

  primary_spelled : {s : List ℕ} {ts rest : List Token} {e : T.Expr} → SpellsPrimary s ts e rest
      → expr_tokens e + length rest ≤ length ts
  primary_spelled (L.number ts rest t n h) = let a = taken h in omega (arith, a)
  primary_spelled (L.text ts rest t v h spelled) = let a = taken h in omega (arith, a)
  primary_spelled (L.bit ts rest t b h) = let a = taken h in omega (arith, a)
  primary_spelled (L.parenthesized ts after mid rest t u e opened sp closed) =
      let a = taken opened in
      let b = expr_spelled sp in
      let c = taken closed in
      omega (arith, a, b, c)
  primary_spelled (L.reference ts rest r sp) = reference_spelled sp

  pub reference_spelled : {s : List ℕ} {ts rest : List Token} {r : T.Reference} → SpellsReference s ts r rest
      → reference_tokens r + length rest ≤ length ts
  reference_spelled (L.basic ts mid rest q r sp more) =
      let a = qualified_spelled sp in
      let b = arrows_spelled more in
      omega (arith, a, b)

  arrows_spelled : {s : List ℕ} {ts rest : List Token} {left r : T.Reference} → SpellsArrows s left ts r rest
      → reference_tokens r + length rest ≤ reference_tokens left + length ts
  arrows_spelled (L.no_arrow r ts none) = omega arith
  arrows_spelled (L.arrow locator r ts after mid rest t q h sp more) =
      let a = taken h in
      let b = qualified_spelled sp in
      let c = arrows_spelled more in
      omega (arith, a, b, c)

  qualified_spelled : {s : List ℕ} {ts rest : List Token} {q : T.Qualified} → SpellsQualified s ts q rest
      → qualified_tokens q + length rest ≤ length ts
  qualified_spelled (L.last ts after rest t word x h sp none) =
      let a = taken h in
      let b = arguments_spelled sp in
      omega (arith, a, b)
  qualified_spelled (L.of ts after mid point rest t u word x q h sp dot more) =
      let a = taken h in
      let b = arguments_spelled sp in
      let c = taken dot in
      let d = qualified_spelled more in
      omega (arith, a, b, c, d)

  pub arguments_spelled : {s : List ℕ} {ts rest : List Token} {x : T.Arguments} → SpellsArguments s ts x rest
      → arguments_tokens x + length rest ≤ length ts
  arguments_spelled (L.absent ts none) = omega arith
  arguments_spelled (L.empty ts mid rest t u opened closed) =
      let a = taken opened in
      let b = taken closed in
      omega (arith, a, b)
  arguments_spelled (L.listed ts after mid rest t u es opened none sp closed) =
      let a = taken opened in
      let b = exprs_spelled sp in
      let c = taken closed in
      omega (arith, a, b, c)

  pub exprs_spelled : {s : List ℕ} {ts rest : List Token} {es : T.Exprs} → SpellsExprs s ts es rest
      → exprs_tokens es + length rest ≤ length ts
  exprs_spelled (L.one ts rest e sp none) = let a = expr_spelled sp in omega (arith, a)
  exprs_spelled (L.more ts mid after rest t e es sp comma more) =
      let a = expr_spelled sp in
      let b = taken comma in
      let c = exprs_spelled more in
      let d = list_most e es in
      omega (arith, a, b, c, d)
