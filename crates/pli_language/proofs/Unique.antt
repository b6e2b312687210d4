-- A token list spells at most one tree: rule by rule, two readings from the same place are the same and end at the same
-- place.
use Rattle.std.proofs.Common.{◌≡◌, ◌≢◌, ℕ, List, [], ◌∷◌, ◌++◌, Option, Some, None, Bool, true, false, refl, sym, ap, ◌∙◌}
use Rattle.std.proofs.lemmas.Bool.{eqb-true, eq-eqb}
use Rattle.std.proofs.lemmas.List.{append_cancel_right}
use Rattle.std.specs.Prelude.{◌==◌, if◌then◌else◌, slice_range}
use Rattle.pli_language.specs.declared.token.Word.{Word}
use Rattle.pli_language.specs.declared.token.Symbol.TheVariants as S
use Rattle.pli_language.specs.declared.token.Kind.{Kind}
use Rattle.pli_language.specs.declared.token.Kind.TheVariants as K
use Rattle.pli_language.specs.declared.token.Token.{Token}
use Rattle.pli_language.specs.declared.expr.PrefixOp.{PrefixOp}
use Rattle.pli_language.specs.Tokens.{IsTextOf, doubled, quote}
use Rattle.pli_language.specs.Tree as T
use Rattle.pli_language.specs.Spells as G
use Rattle.pli_language.specs.Spells.{Takes, next_kind, prefix_op, infix_op, below, Level, SpellsAt, SpellsChain, SpellsPrimary, SpellsReference, SpellsArrows, SpellsQualified, SpellsArguments, SpellsExprs, SpellsCount}

-- two readings give one value and end at one place
pub record Same {X : Type 0} (x y : X) (r r' : List Token) : Type 0 where
  pub value : x ≡ y
  pub rest : r ≡ r'

-- two things that tell readings apart, as one
pub data Both (A B : Type 0) : Type 0 where
  both : A → B → Both A B

pub both_same : {A B : Type 0} {a a' : A} {b b' : B} → a ≡ a' → b ≡ b' → both a b ≡ both a' b'
both_same e f = cc (e, f)

-- the first token and those behind it
pub record SameTake (t t' : Token) (k k' : Kind) (r r' : List Token) : Type 0 where
  pub token : t ≡ t'
  pub kind : k ≡ k'
  pub rest : r ≡ r'

pub same_take : {ts ts' r r' : List Token} {t t' : Token} {k k' : Kind} → ts ≡ ts' → Takes ts k t r → Takes ts' k' t' r' → SameTake t t' k k' r r'
same_take {r = r} {r' = r'} {t = t} {t' = t'} {k = k} {k' = k'} e a b =
    let token : t ≡ t' = cc in
    let rest : r ≡ r' = cc in
    let kind : k ≡ k' = cc in
    record { token = token; kind = kind; rest = rest }

pub next_taken : {ts r : List Token} {t : Token} {k : Kind} → Takes ts k t r → next_kind ts ≡ Some k
next_taken a = ap next_kind a.is ∙ ap Some a.of_kind

-- no token of this kind stands here
pub stops_here : {ts ts' r : List Token} {t : Token} {k : Kind} → ts ≡ ts' → next_kind ts ≢ Some k → Takes ts' k t r → ⊥
stops_here e stop take = stop (ap next_kind e ∙ next_taken take)

pub name_same : (s : List ℕ) → {ts ts' r r' : List Token} {t t' : Token} {w w' : Word} → ts ≡ ts' → Takes ts (K.Name w) t r → Takes ts' (K.Name w') t' r' → Same (G.name_at s t w) (G.name_at s t' w') r r'
name_same s {t = t} {t' = t'} {w = w} {w' = w'} e a b =
    let c = same_take e a b in
    let word : w ≡ w' = cc (c.kind) in
    let name : G.name_at s t w ≡ G.name_at s t' w' = cc (ap (G.name_at s) c.token, word) in
    record { value = name; rest = c.rest }

pub count_same : {ts ts' r r' : List Token} {n n' : ℕ} → ts ≡ ts' → SpellsCount ts n r → SpellsCount ts' n' r' → Same n n' r r'
count_same {n = n} {n' = n'} k a b =
    let o = same_take k a.opened b.opened in
    let c = same_take o.rest a.counted b.counted in
    let d = same_take c.rest a.closed b.closed in
    let value : n ≡ n' = cc (c.kind) in
    record { value = value; rest = d.rest }

-- ---- texts

byte_doubled : Bool → ℕ → List ℕ → List ℕ
byte_doubled t b d = if t then quote ∷ quote ∷ d else b ∷ d

record SameByte (b b' : ℕ) (d d' : List ℕ) : Type 0 where
  byte : b ≡ b'
  behind : d ≡ d'

byte_same : (t t' : Bool) (b b' : ℕ) (d d' : List ℕ) → (b == quote) ≡ t → (b' == quote) ≡ t' → byte_doubled t b d ≡ byte_doubled t' b' d' → SameByte b b' d d'
unfolding byte_doubled
byte_same true true b b' d d' e e' h =
    let q = eqb-true b quote e in
    let q' = eqb-true b' quote e' in
    let byte : b ≡ b' = cc in
    let behind : d ≡ d' = cc in
    record { byte = byte; behind = behind }
byte_same true false b b' d d' e e' h =
    let q : b' ≡ quote = cc in
    let t = eq-eqb b' quote q in
    let bad : true ≡ false = cc in
    absurd (cc bad)
byte_same false true b b' d d' e e' h =
    let q : b ≡ quote = cc in
    let t = eq-eqb b quote q in
    let bad : true ≡ false = cc in
    absurd (cc bad)
byte_same false false b b' d d' e e' h =
    let byte : b ≡ b' = cc in
    let behind : d ≡ d' = cc in
    record { byte = byte; behind = behind }

byte_some : (t : Bool) (b : ℕ) (d : List ℕ) → [] ≡ byte_doubled t b d → ⊥
unfolding byte_doubled
byte_some true b d e = cc
byte_some false b d e = cc

doubled_same : (v v' : List ℕ) → doubled v ≡ doubled v' → v ≡ v'
unfolding byte_doubled
doubled_same [] [] e = refl
doubled_same [] (b ∷ v') e = absurd (byte_some (b == quote) b (doubled v') e)
doubled_same (b ∷ v) [] e = absurd (byte_some (b == quote) b (doubled v) (sym e))
doubled_same (b ∷ v) (b' ∷ v') e =
    let h = byte_same (b == quote) (b' == quote) b b' (doubled v) (doubled v') refl refl e in
    let i = doubled_same v v' h.behind in
    cc (h.byte, i)

pub text_same : {v v' w w' : List ℕ} → w ≡ w' → IsTextOf v w → IsTextOf v' w' → v ≡ v'
text_same {v} {v'} {w} {w'} e a b =
    let h : doubled v ++ quote ∷ [] ≡ doubled v' ++ quote ∷ [] = cc in
    doubled_same v v' (append_cancel_right (doubled v) (doubled v') (quote ∷ []) h)

-- ---- what a rule begins with

-- the first token is a name
pub record BeginsName (ts : List Token) : Type 0 where
  pub word : Word
  pub first : next_kind ts ≡ Some (K.Name word)

pub qualified_begins : {s : List ℕ} {ts rest : List Token} {q : T.Qualified} → SpellsQualified s ts q rest → BeginsName ts
qualified_begins (G.last ts after rest t word a take args stop) = record { word = word; first = next_taken take }
qualified_begins (G.of ts after mid point rest t u word a q take args dot more) = record { word = word; first = next_taken take }

pub reference_begins : {s : List ℕ} {ts rest : List Token} {r : T.Reference} → SpellsReference s ts r rest → BeginsName ts
reference_begins (G.basic ts mid rest q r first more) = qualified_begins first

pub primary_begins : {s : List ℕ} {ts rest : List Token} {e : T.Expr} → SpellsPrimary s ts e rest → prefix_op (next_kind ts) ≡ None
primary_begins (G.number ts rest t n take) = ap prefix_op (next_taken take)
primary_begins (G.text ts rest t v take of) = ap prefix_op (next_taken take)
primary_begins (G.bit ts rest t b take) = ap prefix_op (next_taken take)
primary_begins (G.parenthesized ts after mid rest t u e open' inner close) = ap prefix_op (next_taken open')
primary_begins (G.reference ts rest r of) = ap prefix_op (reference_begins of).first

-- what an expression may begin with
abbrev pub begins_expr : Option Kind → Bool
begins_expr (Some (K.Name word)) = true
begins_expr (Some (K.Number n)) = true
begins_expr (Some K.Text) = true
begins_expr (Some (K.Bit b)) = true
begins_expr (Some (K.Symbol S.OpenParenthesis)) = true
begins_expr (Some (K.Symbol S.Plus)) = true
begins_expr (Some (K.Symbol S.Minus)) = true
begins_expr (Some (K.Symbol S.Not)) = true
begins_expr _ = false

primary_begins_expr : {s : List ℕ} {ts rest : List Token} {e : T.Expr} → SpellsPrimary s ts e rest → begins_expr (next_kind ts) ≡ true
primary_begins_expr (G.number ts rest t n take) = ap begins_expr (next_taken take)
primary_begins_expr (G.text ts rest t v take of) = ap begins_expr (next_taken take)
primary_begins_expr (G.bit ts rest t b take) = ap begins_expr (next_taken take)
primary_begins_expr (G.parenthesized ts after mid rest t u e open' inner close) = ap begins_expr (next_taken open')
primary_begins_expr (G.reference ts rest r of) = ap begins_expr (reference_begins of).first

prefix_begins_expr : (k : Kind) (op : PrefixOp) → prefix_op (Some k) ≡ Some op → begins_expr (Some k) ≡ true
prefix_begins_expr (K.Symbol S.Plus) op e = refl
prefix_begins_expr (K.Symbol S.Minus) op e = refl
prefix_begins_expr (K.Symbol S.Not) op e = refl
prefix_begins_expr k op e = absurd (cc e)

pub expr_begins : {s : List ℕ} {l : Option Level} {ts rest : List Token} {e : T.Expr} → SpellsAt s l ts e rest → begins_expr (next_kind ts) ≡ true
expr_begins (G.chain level ts mid rest first e a c) = expr_begins a
expr_begins (G.prefixed ts after rest t op e is of b) = ap (λ u. begins_expr (next_kind u)) is ∙ prefix_begins_expr t.kind op of
expr_begins (G.primary ts rest e b) = primary_begins_expr b

-- no expression begins with a token of another kind
pub no_expr : {s : List ℕ} {l : Option Level} {ts ts' r r' : List Token} {e : T.Expr} {t : Token} {k : Kind} → ts ≡ ts' → Takes ts k t r → SpellsAt s l ts' e r' → begins_expr (Some k) ≡ false → ⊥
no_expr h take of never = absurd (cc (ap (λ u. begins_expr (next_kind u)) h, ap begins_expr (next_taken take), expr_begins of, never))

-- ---- expressions

mutual
  pub at_same : {s : List ℕ} {l l' : Option Level} {ts ts' r r' : List Token} {e e' : T.Expr} → l ≡ l' → ts ≡ ts' → SpellsAt s l ts e r → SpellsAt s l' ts' e' r' → Same e e' r r'
  at_same h k (G.chain level ts mid rest first e a c) (G.chain level' ts' mid' rest' first' e' a' c') =
      let n : level ≡ level' = cc in
      let o = at_same (ap below n) k a a' in
      chain_same n o.value o.rest c c'
  at_same h k (G.chain level ts mid rest first e a c) (G.prefixed ts' after rest' t op e' is of b) = absurd (cc h)
  at_same h k (G.chain level ts mid rest first e a c) (G.primary ts' rest' e' b) = absurd (cc h)
  at_same h k (G.prefixed ts after rest t op e is of b) (G.chain level ts' mid rest' first e' a c) = absurd (cc h)
  at_same h k (G.prefixed ts after rest t op e is of b) (G.prefixed ts' after' rest' t' op' e' is' of' b') =
      let i : after ≡ after' = cc in
      let j : t ≡ t' = cc in
      let o : op ≡ op' = cc (ap (λ u. prefix_op (Some u.kind)) j) in
      let f = at_same refl i b b' in
      let value : T.Prefix op e (G.place_of t) ≡ T.Prefix op' e' (G.place_of t') = cc (f.value, o, ap G.place_of j) in
      record { value = value; rest = f.rest }
  at_same h k (G.prefixed ts after rest t op e is of b) (G.primary ts' rest' e' b') =
      let n : prefix_op (next_kind ts') ≡ Some op = ap (λ u. prefix_op (next_kind u)) (sym k ∙ is) ∙ of in
      let m = primary_begins b' in
      absurd (cc (n, m))
  at_same h k (G.primary ts rest e b) (G.chain level ts' mid rest' first e' a c) = absurd (cc h)
  at_same h k (G.primary ts rest e b) (G.prefixed ts' after rest' t op e' is of b') =
      let n : prefix_op (next_kind ts) ≡ Some op = ap (λ u. prefix_op (next_kind u)) (k ∙ is) ∙ of in
      let m = primary_begins b in
      absurd (cc (n, m))
  at_same h k (G.primary ts rest e b) (G.primary ts' rest' e' b') = primary_same k b b'

  pub chain_same : {s : List ℕ} {l l' : Level} {a a' e e' : T.Expr} {ts ts' r r' : List Token} → l ≡ l' → a ≡ a' → ts ≡ ts' → SpellsChain s l a ts e r → SpellsChain s l' a' ts' e' r' → Same e e' r r'
  chain_same n v k (G.stops level e ts stop) (G.stops level' e' ts' stop') = record { value = v; rest = k }
  chain_same n v k (G.stops level e ts stop) (G.goes_on level' left right e' ts' after mid rest t op is of b c) =
      let here : infix_op level' (next_kind ts) ≡ Some op = ap (λ u. infix_op level' (next_kind u)) (k ∙ is) ∙ of in
      let none : infix_op level' (next_kind ts) ≡ None = ap (λ u. infix_op u (next_kind ts)) (sym n) ∙ stop in
      absurd (cc (here, none))
  chain_same n v k (G.goes_on level left right e ts after mid rest t op is of b c) (G.stops level' e' ts' stop) =
      let here : infix_op level (next_kind ts') ≡ Some op = ap (λ u. infix_op level (next_kind u)) (sym k ∙ is) ∙ of in
      let none : infix_op level (next_kind ts') ≡ None = ap (λ u. infix_op u (next_kind ts')) n ∙ stop in
      absurd (cc (here, none))
  chain_same n v k (G.goes_on level left right e ts after mid rest t op is of b c) (G.goes_on level' left' right' e' ts' after' mid' rest' t' op' is' of' b' c') =
      let i : after ≡ after' = cc in
      let j : t ≡ t' = cc in
      let f : infix_op level (Some t.kind) ≡ infix_op level' (Some t'.kind) = cc (ap infix_op n, ap (λ u. Some u.kind) j) in
      let o : op ≡ op' = cc in
      let g = at_same (ap below n) i b b' in
      let joined : T.Infix op left right ≡ T.Infix op' left' right' = cc (g.value) in
      chain_same n joined g.rest c c'

  pub primary_same : {s : List ℕ} {ts ts' r r' : List Token} {e e' : T.Expr} → ts ≡ ts' → SpellsPrimary s ts e r → SpellsPrimary s ts' e' r' → Same e e' r r'
  primary_same k (G.number ts rest t n take) (G.number ts' rest' t' n' take') =
      let a = same_take k take take' in
      let value : T.Number n (G.place_of t) ≡ T.Number n' (G.place_of t') = cc (a.kind, ap G.place_of a.token) in
      record { value = value; rest = a.rest }
  primary_same k (G.number ts rest t n take) (G.text ts' rest' t' v take' of') = absurd (cc ((same_take k take take').kind))
  primary_same k (G.number ts rest t n take) (G.bit ts' rest' t' b take') = absurd (cc ((same_take k take take').kind))
  primary_same k (G.number ts rest t n take) (G.parenthesized ts' after mid rest' t' u e open' inner close) = absurd (cc ((same_take k take open').kind))
  primary_same k (G.number ts rest t n take) (G.reference ts' rest' r of) = absurd (cc (ap next_kind k, next_taken take, (reference_begins of).first))
  primary_same k (G.text ts rest t v take of) (G.number ts' rest' t' n take') = absurd (cc ((same_take k take take').kind))
  primary_same {s} k (G.text ts rest t v take of) (G.text ts' rest' t' v' take' of') =
      let a = same_take k take take' in
      let w = text_same (ap (λ u. slice_range s u.start u.end) a.token) of of' in
      let value : T.Text v (G.place_of t) ≡ T.Text v' (G.place_of t') = cc (w, ap G.place_of a.token) in
      record { value = value; rest = a.rest }
  primary_same k (G.text ts rest t v take of) (G.bit ts' rest' t' b take') = absurd (cc ((same_take k take take').kind))
  primary_same k (G.text ts rest t v take of) (G.parenthesized ts' after mid rest' t' u e open' inner close) = absurd (cc ((same_take k take open').kind))
  primary_same k (G.text ts rest t v take of) (G.reference ts' rest' r of') = absurd (cc (ap next_kind k, next_taken take, (reference_begins of').first))
  primary_same k (G.bit ts rest t b take) (G.number ts' rest' t' n take') = absurd (cc ((same_take k take take').kind))
  primary_same k (G.bit ts rest t b take) (G.text ts' rest' t' v take' of) = absurd (cc ((same_take k take take').kind))
  primary_same k (G.bit ts rest t b take) (G.bit ts' rest' t' b' take') =
      let a = same_take k take take' in
      let value : T.Bit b (G.place_of t) ≡ T.Bit b' (G.place_of t') = cc (a.kind, ap G.place_of a.token) in
      record { value = value; rest = a.rest }
  primary_same k (G.bit ts rest t b take) (G.parenthesized ts' after mid rest' t' u e open' inner close) = absurd (cc ((same_take k take open').kind))
  primary_same k (G.bit ts rest t b take) (G.reference ts' rest' r of) = absurd (cc (ap next_kind k, next_taken take, (reference_begins of).first))
  primary_same k (G.parenthesized ts after mid rest t u e open' inner close) (G.number ts' rest' t' n take') = absurd (cc ((same_take k open' take').kind))
  primary_same k (G.parenthesized ts after mid rest t u e open' inner close) (G.text ts' rest' t' v take' of) = absurd (cc ((same_take k open' take').kind))
  primary_same k (G.parenthesized ts after mid rest t u e open' inner close) (G.bit ts' rest' t' b take') = absurd (cc ((same_take k open' take').kind))
  primary_same k (G.parenthesized ts after mid rest t u e o inner close) (G.parenthesized ts' after' mid' rest' t' u' e' o' inner' close') =
      let a = same_take k o o' in
      let f = at_same refl a.rest inner inner' in
      let c = same_take f.rest close close' in
      let value : T.Parenthesized e (G.place_of t) ≡ T.Parenthesized e' (G.place_of t') = cc (f.value, ap G.place_of a.token) in
      record { value = value; rest = c.rest }
  primary_same k (G.parenthesized ts after mid rest t u e open' inner close) (G.reference ts' rest' r of) = absurd (cc (ap next_kind k, next_taken open', (reference_begins of).first))
  primary_same k (G.reference ts rest r of) (G.number ts' rest' t' n take') = absurd (cc (ap next_kind k, next_taken take', (reference_begins of).first))
  primary_same k (G.reference ts rest r of) (G.text ts' rest' t' v take' of') = absurd (cc (ap next_kind k, next_taken take', (reference_begins of).first))
  primary_same k (G.reference ts rest r of) (G.bit ts' rest' t' b take') = absurd (cc (ap next_kind k, next_taken take', (reference_begins of).first))
  primary_same k (G.reference ts rest r of) (G.parenthesized ts' after mid rest' t' u e open' inner close) = absurd (cc (ap next_kind k, next_taken open', (reference_begins of).first))
  primary_same k (G.reference ts rest r of) (G.reference ts' rest' r' of') =
      let f = reference_same k of of' in
      record { value = ap T.Refers f.value; rest = f.rest }

  pub reference_same : {s : List ℕ} {ts ts' r r' : List Token} {e e' : T.Reference} → ts ≡ ts' → SpellsReference s ts e r → SpellsReference s ts' e' r' → Same e e' r r'
  reference_same k (G.basic ts mid rest q r first more) (G.basic ts' mid' rest' q' r' first' more') =
      let f = qualified_same k first first' in
      arrows_same (ap T.Plain f.value) f.rest more more'

  pub arrows_same : {s : List ℕ} {a a' e e' : T.Reference} {ts ts' r r' : List Token} → a ≡ a' → ts ≡ ts' → SpellsArrows s a ts e r → SpellsArrows s a' ts' e' r' → Same e e' r r'
  arrows_same v k (G.no_arrow r ts stop) (G.no_arrow r' ts' stop') = record { value = v; rest = k }
  arrows_same v k (G.no_arrow r ts stop) (G.arrow locator r' ts' after mid rest t q take target more) = absurd (stop (ap next_kind k ∙ next_taken take))
  arrows_same v k (G.arrow locator r ts after mid rest t q take target more) (G.no_arrow r' ts' stop) = absurd (stop (ap next_kind (sym k) ∙ next_taken take))
  arrows_same v k (G.arrow locator r ts after mid rest t q take target more) (G.arrow locator' r' ts' after' mid' rest' t' q' take' target' more') =
      let a = same_take k take take' in
      let f = qualified_same a.rest target target' in
      let located : T.Located locator q ≡ T.Located locator' q' = cc (f.value) in
      arrows_same located f.rest more more'

  pub qualified_same : {s : List ℕ} {ts ts' r r' : List Token} {e e' : T.Qualified} → ts ≡ ts' → SpellsQualified s ts e r → SpellsQualified s ts' e' r' → Same e e' r r'
  qualified_same {s} k (G.last ts after rest t word a take args stop) (G.last ts' after' rest' t' word' a' take' args' stop') =
      let b = same_take k take take' in
      let f = arguments_same b.rest args args' in
      let w : word ≡ word' = cc (b.kind) in
      let n : G.name_at s t word ≡ G.name_at s t' word' = cc (ap (G.name_at s) b.token, w) in
      let value : T.Last (G.name_at s t word) a ≡ T.Last (G.name_at s t' word') a' = cc (n, f.value) in
      record { value = value; rest = f.rest }
  qualified_same k (G.last ts after rest t word a take args stop) (G.of ts' after' mid' point' rest' t' u' word' a' q' take' args' dot' more') =
      let b = same_take k take take' in
      let f = arguments_same b.rest args args' in
      absurd (stop (ap next_kind f.rest ∙ next_taken dot'))
  qualified_same k (G.of ts after mid point rest t u word a q take args dot more) (G.last ts' after' rest' t' word' a' take' args' stop') =
      let b = same_take k take take' in
      let f = arguments_same b.rest args args' in
      absurd (stop' (ap next_kind (sym f.rest) ∙ next_taken dot))
  qualified_same {s} k (G.of ts after mid point rest t u word a q take args dot more) (G.of ts' after' mid' point' rest' t' u' word' a' q' take' args' dot' more') =
      let b = same_take k take take' in
      let f = arguments_same b.rest args args' in
      let d = same_take f.rest dot dot' in
      let g = qualified_same d.rest more more' in
      let w : word ≡ word' = cc (b.kind) in
      let n : G.name_at s t word ≡ G.name_at s t' word' = cc (ap (G.name_at s) b.token, w) in
      let value : T.Of (G.name_at s t word) a q ≡ T.Of (G.name_at s t' word') a' q' = cc (n, f.value, g.value) in
      record { value = value; rest = g.rest }

  pub arguments_same : {s : List ℕ} {ts ts' r r' : List Token} {e e' : T.Arguments} → ts ≡ ts' → SpellsArguments s ts e r → SpellsArguments s ts' e' r' → Same e e' r r'
  arguments_same k (G.absent ts stop) (G.absent ts' stop') = record { value = refl; rest = k }
  arguments_same k (G.absent ts stop) (G.empty ts' mid rest t u take close) = absurd (stop (ap next_kind k ∙ next_taken take))
  arguments_same k (G.absent ts stop) (G.listed ts' after mid rest t u es take begins inner close) = absurd (stop (ap next_kind k ∙ next_taken take))
  arguments_same k (G.empty ts mid rest t u take close) (G.absent ts' stop) = absurd (stop (ap next_kind (sym k) ∙ next_taken take))
  arguments_same k (G.empty ts mid rest t u take close) (G.empty ts' mid' rest' t' u' take' close') =
      let a = same_take k take take' in
      let c = same_take a.rest close close' in
      record { value = refl; rest = c.rest }
  arguments_same k (G.empty ts mid rest t u take close) (G.listed ts' after' mid' rest' t' u' es take' begins inner close') =
      let a = same_take k take take' in
      absurd (begins (ap next_kind (sym a.rest) ∙ next_taken close))
  arguments_same k (G.listed ts after mid rest t u es take begins inner close) (G.absent ts' stop) = absurd (stop (ap next_kind (sym k) ∙ next_taken take))
  arguments_same k (G.listed ts after mid rest t u es take begins inner close) (G.empty ts' mid' rest' t' u' take' close') =
      let a = same_take k take take' in
      absurd (begins (ap next_kind a.rest ∙ next_taken close'))
  arguments_same k (G.listed ts after mid rest t u es take begins inner close) (G.listed ts' after' mid' rest' t' u' es' take' begins' inner' close') =
      let a = same_take k take take' in
      let f = exprs_same a.rest inner inner' in
      let c = same_take f.rest close close' in
      record { value = ap T.Listed f.value; rest = c.rest }

  pub exprs_same : {s : List ℕ} {ts ts' r r' : List Token} {e e' : T.Exprs} → ts ≡ ts' → SpellsExprs s ts e r → SpellsExprs s ts' e' r' → Same e e' r r'
  exprs_same k (G.one ts rest e of stop) (G.one ts' rest' e' of' stop') =
      let f = at_same refl k of of' in
      record { value = ap (λ u. T.ExprThen u T.NoExpr) f.value; rest = f.rest }
  exprs_same k (G.one ts rest e of stop) (G.more ts' mid after rest' t e' es of' comma others) =
      let f = at_same refl k of of' in
      absurd (stop (ap next_kind f.rest ∙ next_taken comma))
  exprs_same k (G.more ts mid after rest t e es of comma others) (G.one ts' rest' e' of' stop') =
      let f = at_same refl k of of' in
      absurd (stop' (ap next_kind (sym f.rest) ∙ next_taken comma))
  exprs_same k (G.more ts mid after rest t e es of comma others) (G.more ts' mid' after' rest' t' e' es' of' comma' others') =
      let f = at_same refl k of of' in
      let c = same_take f.rest comma comma' in
      let g = exprs_same c.rest others others' in
      let value : T.ExprThen e es ≡ T.ExprThen e' es' = cc (f.value, g.value) in
      record { value = value; rest = g.rest }
