-- What stands first where something is spelled, what stands behind it, and that it takes tokens.
use Rattle.std.proofs.Common.{◌≡◌, ◌≢◌, ℕ, ◌<◌, ◌≤◌, List, ◌∷◌, length, Option, Some, refl, ap, ◌∙◌, arith}
use Rattle.pli_language.specs.declared.token.Word.{Word}
use Rattle.pli_language.specs.declared.token.Symbol.TheVariants as S
use Rattle.pli_language.specs.declared.token.Kind.{Kind}
use Rattle.pli_language.specs.declared.token.Kind.TheVariants as K
use Rattle.pli_language.specs.declared.token.Token.{Token}
use Rattle.pli_language.specs.declared.expr.Place.{Place}
use Rattle.pli_language.specs.Spells as G
use Rattle.pli_language.specs.Spells.{Takes, next_kind, Level, place_of, SpellsAt, SpellsChain, SpellsPrimary, SpellsReference, SpellsArrows, SpellsQualified, SpellsArguments, SpellsExprs}
use Rattle.pli_language.specs.Marks.{first_place, reference_place, qualified_place}
use Rattle.pli_language.specs.Tree as T

-- ---- the first token

-- the first token stands at this place
pub record Starts (ts : List Token) (p : Place) : Type 0 where
  pub token : Token
  pub behind : List Token
  pub is : ts ≡ token ∷ behind
  pub place : p ≡ place_of token

pub record StartsName (ts : List Token) : Type 0 where
  pub token : Token
  pub word : Word
  pub behind : List Token
  pub take : Takes ts (K.Name word) token behind

took : {ts rest : List Token} {t : Token} {k : Kind} → Takes ts k t rest → Starts ts (place_of t)
took {ts} {rest} {t} take = record { token = t; behind = rest; is = take.is; place = refl }

moved : {ts : List Token} {p p' : Place} → Starts ts p → p' ≡ p → Starts ts p'
moved b e = record { token = b.token; behind = b.behind; is = b.is; place = e ∙ b.place }

chain_first : {s : List ℕ} {level : Level} {left e : T.Expr} {ts rest : List Token} → SpellsChain s level left ts e rest → first_place e ≡ first_place left
chain_first (G.stops level e ts stop) = refl
chain_first (G.goes_on level left right e ts after mid rest t op is here b c) = chain_first c

arrows_first : {s : List ℕ} {locator r : T.Reference} {ts rest : List Token} → SpellsArrows s locator ts r rest → reference_place r ≡ reference_place locator
arrows_first (G.no_arrow r ts stop) = refl
arrows_first (G.arrow locator r ts after mid rest t q take target arrows) = arrows_first arrows

qualified_first : {s : List ℕ} {q : T.Qualified} {ts rest : List Token} → SpellsQualified s ts q rest → Starts ts (qualified_place q)
qualified_first (G.last ts after rest t word a take args stop) = took take
qualified_first (G.of ts after mid point rest t u word a q take args dot target) = took take

reference_first : {s : List ℕ} {r : T.Reference} {ts rest : List Token} → SpellsReference s ts r rest → Starts ts (reference_place r)
reference_first (G.basic ts mid rest q r target arrows) = moved (qualified_first target) (arrows_first arrows)

primary_first : {s : List ℕ} {e : T.Expr} {ts rest : List Token} → SpellsPrimary s ts e rest → Starts ts (first_place e)
primary_first (G.number ts rest t n take) = took take
primary_first (G.text ts rest t v take spelled) = took take
primary_first (G.bit ts rest t b take) = took take
primary_first (G.parenthesized ts after mid rest t u e take inside close) = took take
primary_first (G.reference ts rest r refers) = reference_first refers

pub at_first : {s : List ℕ} {o : Option Level} {e : T.Expr} {ts rest : List Token} → SpellsAt s o ts e rest → Starts ts (first_place e)
at_first (G.chain level ts mid rest first e a c) = moved (at_first a) (chain_first c)
at_first (G.prefixed ts after rest t op e is pre b) = record { token = t; behind = after; is = is; place = refl }
at_first (G.primary ts rest e b) = primary_first b

qualified_name : {s : List ℕ} {q : T.Qualified} {ts rest : List Token} → SpellsQualified s ts q rest → StartsName ts
qualified_name (G.last ts after rest t word a take args stop) = record { token = t; word = word; behind = after; take = take }
qualified_name (G.of ts after mid point rest t u word a q take args dot target) = record { token = t; word = word; behind = after; take = take }

pub reference_name : {s : List ℕ} {r : T.Reference} {ts rest : List Token} → SpellsReference s ts r rest → StartsName ts
reference_name (G.basic ts mid rest q r target arrows) = qualified_name target

-- ---- the token behind

pub qualified_stops : {s : List ℕ} {q : T.Qualified} {ts rest : List Token} → SpellsQualified s ts q rest → next_kind rest ≢ Some (K.Symbol S.Point)
qualified_stops (G.last ts after rest t word a take args stop) = stop
qualified_stops (G.of ts after mid point rest t u word a q take args dot target) = qualified_stops target

-- ---- how many tokens

takes_less : {ts rest : List Token} {t : Token} {k : Kind} → Takes ts k t rest → length rest < length ts
takes_less take = omega (arith, ap length take.is)

mutual
  pub at_shorter : {s : List ℕ} {o : Option Level} {e : T.Expr} {ts rest : List Token} → SpellsAt s o ts e rest → length rest < length ts
  at_shorter (G.chain level ts mid rest first e a c) = omega (arith, at_shorter a, chain_shorter c)
  at_shorter (G.prefixed ts after rest t op e is pre b) = omega (arith, ap length is, at_shorter b)
  at_shorter (G.primary ts rest e b) = primary_shorter b

  chain_shorter : {s : List ℕ} {level : Level} {left e : T.Expr} {ts rest : List Token} → SpellsChain s level left ts e rest → length rest ≤ length ts
  chain_shorter (G.stops level e ts stop) = omega arith
  chain_shorter (G.goes_on level left right e ts after mid rest t op is here b c) =
      omega (arith, ap length is, at_shorter b, chain_shorter c)

  primary_shorter : {s : List ℕ} {e : T.Expr} {ts rest : List Token} → SpellsPrimary s ts e rest → length rest < length ts
  primary_shorter (G.number ts rest t n take) = takes_less take
  primary_shorter (G.text ts rest t v take spelled) = takes_less take
  primary_shorter (G.bit ts rest t b take) = takes_less take
  primary_shorter (G.parenthesized ts after mid rest t u e take inside close) =
      omega (arith, takes_less take, at_shorter inside, takes_less close)
  primary_shorter (G.reference ts rest r refers) = reference_shorter refers

  pub reference_shorter : {s : List ℕ} {r : T.Reference} {ts rest : List Token} → SpellsReference s ts r rest → length rest < length ts
  reference_shorter (G.basic ts mid rest q r target arrows) =
      omega (arith, qualified_shorter target, arrows_shorter arrows)

  arrows_shorter : {s : List ℕ} {locator r : T.Reference} {ts rest : List Token} → SpellsArrows s locator ts r rest → length rest ≤ length ts
  arrows_shorter (G.no_arrow r ts stop) = omega arith
  arrows_shorter (G.arrow locator r ts after mid rest t q take target arrows) =
      omega (arith, takes_less take, qualified_shorter target, arrows_shorter arrows)

  qualified_shorter : {s : List ℕ} {q : T.Qualified} {ts rest : List Token} → SpellsQualified s ts q rest → length rest < length ts
  qualified_shorter (G.last ts after rest t word a take args stop) = omega (arith, takes_less take, arguments_shorter args)
  qualified_shorter (G.of ts after mid point rest t u word a q take args dot target) =
      omega (arith, takes_less take, arguments_shorter args, takes_less dot, qualified_shorter target)

  pub arguments_shorter : {s : List ℕ} {a : T.Arguments} {ts rest : List Token} → SpellsArguments s ts a rest → length rest ≤ length ts
  arguments_shorter (G.absent ts stop) = omega arith
  arguments_shorter (G.empty ts mid rest t u take close) = omega (arith, takes_less take, takes_less close)
  arguments_shorter (G.listed ts after mid rest t u es take stop inside close) =
      omega (arith, takes_less take, exprs_shorter inside, takes_less close)

  pub exprs_shorter : {s : List ℕ} {es : T.Exprs} {ts rest : List Token} → SpellsExprs s ts es rest → length rest < length ts
  exprs_shorter (G.one ts rest e a stop) = at_shorter a
  exprs_shorter (G.more ts mid after rest t e es a comma others) =
      omega (arith, at_shorter a, takes_less comma, exprs_shorter others)
