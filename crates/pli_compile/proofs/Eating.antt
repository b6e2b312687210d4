-- How many tokens stand before what is left: of expressions at least as many as they weigh.
use Rattle.std.proofs.Common.{◌≡◌, ℕ, ◌+◌, ◌^◌, ◌<◌, ◌≤◌, List, [], ◌∷◌, length, ap, subst, arith}
use Rattle.pli_language.specs.declared.token.Kind.{Kind}
use Rattle.pli_language.specs.declared.token.Token.{Token}
use Rattle.pli_language.specs.Tree as T
use Rattle.pli_language.specs.Spells as G
use Rattle.pli_language.specs.Spells.{Takes}
use Rattle.pli_headline.specs.FirstPath.{expr_weight, exprs_weight}

-- the tokens' lines have 31 bits
abbrev pub Small : List Token → Type 0
Small [] = Unit {0}
Small (t ∷ ts) = (t.line < 2 ^ 31) × Small ts

-- at least so many tokens stand before the rest
pub record Eats (ts rest : List Token) (n : ℕ) : Type 0 where
  pub shorter : length rest + n ≤ length ts
  pub small : Small ts → Small rest

small_rest : {t : Token} {ts rest : List Token} → ts ≡ t ∷ rest → Small ts → Small rest
small_rest {t = t} {rest = rest} e h = (subst Small e h).1

pub small_first : {t : Token} {ts rest : List Token} → ts ≡ t ∷ rest → Small ts → t.line < 2 ^ 31
small_first {t = t} {rest = rest} e h = (subst Small e h).0

pub one : {t : Token} {ts rest : List Token} → ts ≡ t ∷ rest → Eats ts rest 1
one e = record { shorter = let l = ap length e in omega (arith, l); small = small_rest e }

pub take : {t : Token} {k : Kind} {ts rest : List Token} → Takes ts k t rest → Eats ts rest 1
take a = one a.is

pub none : {ts : List Token} → Eats ts ts 0
none = record { shorter = omega arith; small = λ h. h }

pub both : {a b c : List Token} {m n : ℕ} → Eats a b m → Eats b c n → Eats a c (m + n)
both p q = record { shorter = let l = p.shorter in let r = q.shorter in omega (arith, l, r); small = λ h. q.small (p.small h) }

pub least : {a b : List Token} {m n : ℕ} → n ≤ m → Eats a b m → Eats a b n
least h p = record { shorter = let l = p.shorter in omega (arith, l, h); small = p.small }

-- no more than that they are followed by the rest
pub some : {a b : List Token} {m : ℕ} → Eats a b m → Eats a b 0
some p = least (omega arith) p

-- ---- expressions

-- what a chain adds to its left operand
record Chains (ts rest : List Token) (before after : ℕ) : Type 0 where
  shorter : length rest + after ≤ length ts + before
  small : Small ts → Small rest

mutual
  pub level_eats : {s : List ℕ} {level : _} {ts rest : List Token} {e : T.Expr} → G.SpellsAt s level ts e rest → Eats ts rest (expr_weight e)
  level_eats (G.chain level ts mid rest first e part others) =
      let p = level_eats part in
      let q = chain_eats others in
      record { shorter = let l = p.shorter in let r = q.shorter in omega (arith, l, r); small = λ h. q.small (p.small h) }
  level_eats (G.prefixed ts after rest t op e is of_op part) = both (one is) (level_eats part)
  level_eats (G.primary ts rest e part) = primary_eats part

  chain_eats : {s : List ℕ} {level : _} {ts rest : List Token} {left e : T.Expr} → G.SpellsChain s level left ts e rest → Chains ts rest (expr_weight left) (expr_weight e)
  chain_eats (G.stops level e ts stop) = record { shorter = omega arith; small = λ h. h }
  chain_eats (G.goes_on level left right e ts after mid rest t op is of_op part others) =
      let o = one is in
      let p = level_eats part in
      let q = chain_eats others in
      record {
        shorter = let k = o.shorter in let l = p.shorter in let r = q.shorter in omega (arith, k, l, r);
        small = λ h. q.small (p.small (o.small h));
      }

  primary_eats : {s : List ℕ} {ts rest : List Token} {e : T.Expr} → G.SpellsPrimary s ts e rest → Eats ts rest (expr_weight e)
  primary_eats (G.number ts rest t n a) = take a
  primary_eats (G.text ts rest t v a part) = take a
  primary_eats (G.bit ts rest t b a) = take a
  primary_eats (G.parenthesized ts after mid rest t u e a part b) = least (omega arith) (both (both (take a) (level_eats part)) (take b))
  primary_eats (G.reference ts rest r part) = reference_eats part

  pub reference_eats : {s : List ℕ} {ts rest : List Token} {r : T.Reference} → G.SpellsReference s ts r rest → Eats ts rest 1
  reference_eats (G.basic ts mid rest q r part others) = both (qualified_eats part) (arrows_eat others)

  arrows_eat : {s : List ℕ} {ts rest : List Token} {l r : T.Reference} → G.SpellsArrows s l ts r rest → Eats ts rest 0
  arrows_eat (G.no_arrow r ts stop) = none
  arrows_eat (G.arrow locator r ts after mid rest t q a part others) = some (both (both (take a) (qualified_eats part)) (arrows_eat others))

  qualified_eats : {s : List ℕ} {ts rest : List Token} {q : T.Qualified} → G.SpellsQualified s ts q rest → Eats ts rest 1
  qualified_eats (G.last ts after rest t word a part others stop) = both (take part) (arguments_eat others)
  qualified_eats (G.of ts after mid point rest t u word a q part others dot behind) =
      least (omega arith) (both (both (both (take part) (arguments_eat others)) (take dot)) (qualified_eats behind))

  pub arguments_eat : {s : List ℕ} {ts rest : List Token} {a : T.Arguments} → G.SpellsArguments s ts a rest → Eats ts rest 0
  arguments_eat (G.absent ts stop) = none
  arguments_eat (G.empty ts mid rest t u a b) = some (both (take a) (take b))
  arguments_eat (G.listed ts after mid rest t u es a stop part b) = some (both (both (take a) (exprs_eat part)) (take b))

  pub exprs_eat : {s : List ℕ} {ts rest : List Token} {es : T.Exprs} → G.SpellsExprs s ts es rest → Eats ts rest (exprs_weight es)
  exprs_eat (G.one ts rest e part stop) = least (omega arith) (level_eats part)
  exprs_eat (G.more ts mid after rest t e es part a others) = least (omega arith) (both (both (level_eats part) (take a)) (exprs_eat others))

pub count_eats : {ts rest : List Token} {n : ℕ} → G.SpellsCount ts n rest → Eats ts rest 3
count_eats c = both (both (take c.opened) (take c.counted)) (take c.closed)
