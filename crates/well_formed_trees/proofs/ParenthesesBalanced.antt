-- The tokens of an expression close as many parentheses as they open, and open none where as many are open as may be.
use Rattle.std.proofs.Common.{◌≡◌, ℕ, suc, ◌-◌, ◌<◌, false, List, [], ◌∷◌, ◌++◌, Option, Some, refl, sym}
use Rattle.std.proofs.Common.{ap, ◌∙◌, subst, arith}
use Rattle.std.specs.Prelude.{nat_le, ⊤}
use Rattle.std.proofs.lemmas.Bool.Decides.{nat_tests}
use Rattle.std.proofs.lemmas.List.{append_assoc}
use Rattle.pli_language.specs.declared.expr.InfixOp.{InfixOp}
use Rattle.pli_language.specs.declared.expr.PrefixOp.{PrefixOp}
use Rattle.pli_language.specs.declared.fault.SourceKind.TheVariants.{TooLarge}
use Rattle.pli_language.specs.declared.token.Kind.{Kind}
use Rattle.pli_language.specs.declared.token.Kind.TheVariants as K
use Rattle.pli_language.specs.declared.token.Symbol.TheVariants as S
use Rattle.pli_language.specs.declared.token.Token.{Token}
use Rattle.pli_language.specs.Marks.{Marks, note_if, most_parentheses, parenthesis_marks, parentheses_marks}
use Rattle.pli_language.specs.Spells as L
use Rattle.pli_language.specs.Spells.{Level, prefix_op, infix_op, Takes, SpellsAt, SpellsChain, SpellsPrimary}
use Rattle.pli_language.specs.Spells.{SpellsReference, SpellsArrows, SpellsQualified, SpellsArguments, SpellsExprs}
use Rattle.pli_language.specs.Tree as T
use Rattle.well_formed_trees.specs.Shallow.{Opens, OpensReference, OpensQualified, OpensArguments, OpensExprs}
use Rattle.well_formed_trees.proofs.MarksClean.{IsClean, note_clean, parentheses_clean}

-- ---- tokens that close what they open

-- what is so where these tokens break no limit, and marks go on behind them as if they weren't there
abbrev pub Balanced : List Token → (ℕ → Type 0) → Type 0
Balanced p P =
    (n : ℕ) (m : Marks) (q : List Token) → IsClean (parentheses_marks n (p ++ q) m)
    → P n × ((m' : Marks) × (parentheses_marks n (p ++ q) m ≡ parentheses_marks n q m'))

none_balanced : Balanced [] (λ n. ⊤)
none_balanced n m q c = (tt, (m, refl))

both_balanced : (p q : List Token) (P Q : ℕ → Type 0) → Balanced p P → Balanced q Q
    → Balanced (p ++ q) (λ n. P n × Q n)
both_balanced p q P Q h k n m r c =
    let all : parentheses_marks n ((p ++ q) ++ r) m ≡ parentheses_marks n (p ++ (q ++ r)) m =
    ap (λ l. parentheses_marks n l m) (append_assoc p q r) in
    let first = h n m (q ++ r) (subst IsClean all c) in
    let e : parentheses_marks n ((p ++ q) ++ r) m ≡ parentheses_marks n (q ++ r) first.1.0 = all ∙ first.1.1 in
    let second = k n first.1.0 r (subst IsClean e c) in
    ((first.0, second.0), (second.1.0, e ∙ second.1.1))

balanced_by : (p : List Token) (P Q : ℕ → Type 0) → ((n : ℕ) → P n → Q n) → Balanced p P → Balanced p Q
balanced_by p P Q f h n m q c =
    let k = h n m q c in
    (f n k.0, k.1)

abbrev pub IsPlain : Kind → Type 0
IsPlain (K.Symbol S.OpenParenthesis) = ⊥
IsPlain (K.Symbol S.CloseParenthesis) = ⊥
IsPlain _ = ⊤

plain_marks : (t : Token) (k : Kind) (n : ℕ) (m : Marks) → IsPlain k → parenthesis_marks t k n m ≡ (n, m)
plain_marks t (K.Symbol S.OpenParenthesis) n m h = absurd h
plain_marks t (K.Symbol S.CloseParenthesis) n m h = absurd h
plain_marks t _ n m h = refl

plain_token : (t : Token) → IsPlain t.kind → Balanced (t ∷ []) (λ n. ⊤)
unfolding parentheses_marks
plain_token t h n m q c =
    (tt, (m, ap (λ (x : ℕ × Marks). parentheses_marks x.0 q x.1) (plain_marks t t.kind n m h)))

plain_kind : (t : Token) (k : Kind) → t.kind ≡ k → IsPlain k → IsPlain t.kind
plain_kind t k e h = subst IsPlain (sym e) h

-- what stands in parentheses
enclosed : (t u : Token) (p : List Token) (P : ℕ → Type 0) → t.kind ≡ K.Symbol S.OpenParenthesis
    → u.kind ≡ K.Symbol S.CloseParenthesis → Balanced p P
    → Balanced (t ∷ (p ++ u ∷ [])) (λ n. (n < most_parentheses) × P (suc n))
unfolding parentheses_marks
enclosed t u p P e f h n m q c =
    let opened = note_if (nat_le most_parentheses n) (record { line = t.line; column = t.column }) TooLarge m in
    let begun : parentheses_marks n ((t ∷ (p ++ u ∷ [])) ++ q) m ≡ parentheses_marks (suc n) (p ++ (u ∷ q)) opened =
    ap (λ k. parentheses_marks (parenthesis_marks t k n m).0 ((p ++ u ∷ []) ++ q) (parenthesis_marks t k n m).1) e
    ∙ ap (λ l. parentheses_marks (suc n) l opened) (append_assoc p (u ∷ []) q) in
    let clean = subst IsClean begun c in
    let inner = h (suc n) opened (u ∷ q) clean in
    let m' = inner.1.0 in
    let same : suc n - 1 ≡ n = omega arith in
    let closed : parentheses_marks (suc n) (u ∷ q) m' ≡ parentheses_marks n q m' =
    ap (λ k. parentheses_marks (parenthesis_marks u k (suc n) m').0 q (parenthesis_marks u k (suc n) m').1) f
    ∙ ap (λ x. parentheses_marks x q m') same in
    let room = (note_clean (nat_le most_parentheses n) (record { line = t.line; column = t.column }) TooLarge m
    (parentheses_clean (suc n) (p ++ (u ∷ q)) opened clean)).0 in
    ((fewer n room, inner.0), (m', begun ∙ (inner.1.1 ∙ closed))) where
      fewer : (n : ℕ) → nat_le most_parentheses n ≡ false → n < most_parentheses
      fewer n e = grind (arith, nat_tests)

-- ---- expressions

-- the tokens that spell something, which are balanced
pub record IsRead (ts rest : List Token) (P : ℕ → Type 0) : Type 0 where
  pub tokens : List Token
  pub are : ts ≡ tokens ++ rest
  pub balanced : Balanced tokens P

pub nothing_read : (ts : List Token) → IsRead ts ts (λ n. ⊤)
nothing_read ts = record { tokens = []; are = refl; balanced = none_balanced }

pub both_read : (ts mid rest : List Token) (P Q : ℕ → Type 0) → IsRead ts mid P → IsRead mid rest Q
    → IsRead ts rest (λ n. P n × Q n)
both_read ts mid rest P Q h k = record {
  tokens = h.tokens ++ k.tokens;
  are = h.are ∙ (ap (λ l. h.tokens ++ l) k.are ∙ sym (append_assoc h.tokens k.tokens rest));
  balanced = both_balanced h.tokens k.tokens P Q h.balanced k.balanced;
}

pub read_by : (ts rest : List Token) (P Q : ℕ → Type 0) → ((n : ℕ) → P n → Q n) → IsRead ts rest P → IsRead ts rest Q
read_by ts rest P Q f h = record {
  tokens = h.tokens;
  are = h.are;
  balanced = balanced_by h.tokens P Q f h.balanced;
}

token_read : (ts rest : List Token) (t : Token) → ts ≡ t ∷ rest → IsPlain t.kind → IsRead ts rest (λ n. ⊤)
token_read ts rest t e h = record { tokens = t ∷ []; are = e; balanced = plain_token t h }

pub taken_read : {ts rest : List Token} {k : Kind} {t : Token} → Takes ts k t rest → IsPlain k → IsRead ts rest (λ n. ⊤)
taken_read {ts} {rest} {k} {t} taken h = token_read ts rest t taken.is (plain_kind t k taken.of_kind h)

pub enclosed_read : {ts after mid rest : List Token} {t u : Token} (P : ℕ → Type 0)
    → Takes ts (K.Symbol S.OpenParenthesis) t after → IsRead after mid P
    → Takes mid (K.Symbol S.CloseParenthesis) u rest → IsRead ts rest (λ n. (n < most_parentheses) × P (suc n))
enclosed_read {ts} {after} {mid} {rest} {t} {u} P opened h closed = record {
  tokens = t ∷ (h.tokens ++ u ∷ []);
  are =
      opened.is ∙ ap (λ l. t ∷ l) (h.are ∙ (ap (λ l. h.tokens ++ l) closed.is
      ∙ sym (append_assoc h.tokens (u ∷ []) rest)));
  balanced = enclosed t u h.tokens P opened.of_kind closed.of_kind h.balanced;
}

infix_plain : (level : Level) (k : Kind) (op : InfixOp) → infix_op level (Some k) ≡ Some op → IsPlain k
infix_plain L.Multiplying (K.Symbol S.OpenParenthesis) op e = absurd (cc e)
infix_plain L.Adding (K.Symbol S.OpenParenthesis) op e = absurd (cc e)
infix_plain L.Joining (K.Symbol S.OpenParenthesis) op e = absurd (cc e)
infix_plain L.Comparing (K.Symbol S.OpenParenthesis) op e = absurd (cc e)
infix_plain L.Conjoining (K.Symbol S.OpenParenthesis) op e = absurd (cc e)
infix_plain L.Disjoining (K.Symbol S.OpenParenthesis) op e = absurd (cc e)
infix_plain L.Multiplying (K.Symbol S.CloseParenthesis) op e = absurd (cc e)
infix_plain L.Adding (K.Symbol S.CloseParenthesis) op e = absurd (cc e)
infix_plain L.Joining (K.Symbol S.CloseParenthesis) op e = absurd (cc e)
infix_plain L.Comparing (K.Symbol S.CloseParenthesis) op e = absurd (cc e)
infix_plain L.Conjoining (K.Symbol S.CloseParenthesis) op e = absurd (cc e)
infix_plain L.Disjoining (K.Symbol S.CloseParenthesis) op e = absurd (cc e)
infix_plain level _ op e = tt

prefix_plain : (k : Kind) (op : PrefixOp) → prefix_op (Some k) ≡ Some op → IsPlain k
prefix_plain (K.Symbol S.OpenParenthesis) op e = absurd (cc e)
prefix_plain (K.Symbol S.CloseParenthesis) op e = absurd (cc e)
prefix_plain _ op e = tt

mutual
  pub expr_read : {s : List ℕ} {level : Option Level} {ts rest : List Token} {e : T.Expr} → SpellsAt s level ts e rest
      → IsRead ts rest (λ n. Opens n e)
  expr_read (L.chain level ts mid rest first e sp more) =
      read_by ts rest (λ n. Opens n first × (Opens n first → Opens n e)) (λ n. Opens n e) (λ n h. h.1 h.0)
      (both_read ts mid rest (λ n. Opens n first) (λ n. Opens n first → Opens n e) (expr_read sp) (chain_read more))
  expr_read (L.prefixed ts after rest t op e is op_is sp) =
      read_by ts rest (λ n. ⊤ × Opens n e) (λ n. Opens n e) (λ n h. h.1)
      (both_read ts after rest (λ n. ⊤) (λ n. Opens n e)
      (token_read ts after t is (prefix_plain t.kind op op_is)) (expr_read sp))
  expr_read (L.primary ts rest e sp) = primary_read sp

  chain_read : {s : List ℕ} {level : Level} {ts rest : List Token} {left e : T.Expr}
      → SpellsChain s level left ts e rest → IsRead ts rest (λ n. Opens n left → Opens n e)
  chain_read (L.stops level e ts none) =
      read_by ts ts (λ n. ⊤) (λ n. Opens n e → Opens n e) (λ n h k. k) (nothing_read ts)
  chain_read (L.goes_on level left right e ts after mid rest t op is op_is sp more) =
      read_by ts rest (λ n. ⊤ × (Opens n right × ((Opens n left × Opens n right) → Opens n e)))
      (λ n. Opens n left → Opens n e) (λ n h l. h.1.1 (l, h.1.0))
      (both_read ts after rest (λ n. ⊤) (λ n. Opens n right × ((Opens n left × Opens n right) → Opens n e))
      (token_read ts after t is (infix_plain level t.kind op op_is))
      (both_read after mid rest (λ n. Opens n right) (λ n. (Opens n left × Opens n right) → Opens n e)
      (expr_read sp) (chain_read more)))

  primary_read : {s : List ℕ} {ts rest : List Token} {e : T.Expr} → SpellsPrimary s ts e rest
      → IsRead ts rest (λ n. Opens n e)
  primary_read (L.number ts rest t n taken) = taken_read taken tt
  primary_read (L.text ts rest t v taken spelled) = taken_read taken tt
  primary_read (L.bit ts rest t b taken) = taken_read taken tt
  primary_read (L.parenthesized ts after mid rest t u e opened sp closed) =
      enclosed_read (λ n. Opens n e) opened (expr_read sp) closed
  primary_read (L.reference ts rest r sp) = reference_read sp

  pub reference_read : {s : List ℕ} {ts rest : List Token} {r : T.Reference} → SpellsReference s ts r rest
      → IsRead ts rest (λ n. OpensReference n r)
  reference_read (L.basic ts mid rest q r sp more) =
      read_by ts rest (λ n. OpensQualified n q × (OpensQualified n q → OpensReference n r)) (λ n. OpensReference n r)
      (λ n h. h.1 h.0)
      (both_read ts mid rest (λ n. OpensQualified n q) (λ n. OpensQualified n q → OpensReference n r)
      (qualified_read sp) (arrows_read more))

  arrows_read : {s : List ℕ} {ts rest : List Token} {locator r : T.Reference} → SpellsArrows s locator ts r rest
      → IsRead ts rest (λ n. OpensReference n locator → OpensReference n r)
  arrows_read (L.no_arrow r ts none) =
      read_by ts ts (λ n. ⊤) (λ n. OpensReference n r → OpensReference n r) (λ n h k. k) (nothing_read ts)
  arrows_read (L.arrow locator r ts after mid rest t q taken sp more) =
      read_by ts rest
      (λ n. ⊤ × (OpensQualified n q × ((OpensReference n locator × OpensQualified n q) → OpensReference n r)))
      (λ n. OpensReference n locator → OpensReference n r) (λ n h l. h.1.1 (l, h.1.0))
      (both_read ts after rest (λ n. ⊤)
      (λ n. OpensQualified n q × ((OpensReference n locator × OpensQualified n q) → OpensReference n r))
      (taken_read taken tt)
      (both_read after mid rest (λ n. OpensQualified n q)
      (λ n. (OpensReference n locator × OpensQualified n q) → OpensReference n r) (qualified_read sp)
      (arrows_read more)))

  qualified_read : {s : List ℕ} {ts rest : List Token} {q : T.Qualified} → SpellsQualified s ts q rest
      → IsRead ts rest (λ n. OpensQualified n q)
  qualified_read (L.last ts after rest t word a taken sp none) =
      read_by ts rest (λ n. ⊤ × OpensArguments n a) (λ n. OpensArguments n a) (λ n h. h.1)
      (both_read ts after rest (λ n. ⊤) (λ n. OpensArguments n a) (taken_read taken tt) (arguments_read sp))
  qualified_read (L.of ts after mid point rest t u word a q taken sp pointed more) =
      read_by ts rest (λ n. ⊤ × (OpensArguments n a × (⊤ × OpensQualified n q)))
      (λ n. OpensArguments n a × OpensQualified n q) (λ n h. (h.1.0, h.1.1.1))
      (both_read ts after rest (λ n. ⊤) (λ n. OpensArguments n a × (⊤ × OpensQualified n q)) (taken_read taken tt)
      (both_read after mid rest (λ n. OpensArguments n a) (λ n. ⊤ × OpensQualified n q) (arguments_read sp)
      (both_read mid point rest (λ n. ⊤) (λ n. OpensQualified n q) (taken_read pointed tt) (qualified_read more))))

  pub arguments_read : {s : List ℕ} {ts rest : List Token} {a : T.Arguments} → SpellsArguments s ts a rest
      → IsRead ts rest (λ n. OpensArguments n a)
  arguments_read (L.absent ts none) = nothing_read ts
  arguments_read (L.empty ts mid rest t u opened closed) =
      enclosed_read (λ n. ⊤) opened (nothing_read mid) closed
  arguments_read (L.listed ts after mid rest t u es opened some sp closed) =
      enclosed_read (λ n. OpensExprs n es) opened (exprs_read sp) closed

  pub exprs_read : {s : List ℕ} {ts rest : List Token} {es : T.Exprs} → SpellsExprs s ts es rest
      → IsRead ts rest (λ n. OpensExprs n es)
  exprs_read (L.one ts rest e sp none) =
      read_by ts rest (λ n. Opens n e) (λ n. Opens n e × ⊤) (λ n h. (h, tt)) (expr_read sp)
  exprs_read (L.more ts mid after rest t e es sp taken others) =
      read_by ts rest (λ n. Opens n e × (⊤ × OpensExprs n es)) (λ n. Opens n e × OpensExprs n es)
      (λ n h. (h.0, h.1.1))
      (both_read ts mid rest (λ n. Opens n e) (λ n. ⊤ × OpensExprs n es) (expr_read sp)
      (both_read mid after rest (λ n. ⊤) (λ n. OpensExprs n es) (taken_read taken tt) (exprs_read others)))
