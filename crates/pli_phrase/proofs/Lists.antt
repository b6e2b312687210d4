-- Lists of expressions, as a loop reads them.
use Rattle.std.specs.Prelude.{if◌then◌else◌}
use Rattle.std.proofs.Common.{◌≡◌, ℕ, zero, suc, ◌-◌, ◌<◌, ◌≤◌, List, [], ◌∷◌, length, Bool, true, false, Ok, Err, refl, sym, ap, ◌∙◌, arith}
use Rattle.pli_language.specs.declared.token.Symbol.TheVariants as S
use Rattle.pli_language.specs.declared.token.Kind.TheVariants as K
use Rattle.pli_language.specs.declared.token.Token.{Token}
use Rattle.pli_language.specs.Marks.{Marks}
use Rattle.pli_language.specs.Tree as T
use Rattle.pli_phrase.specs.Cursor.{Cursor, Missed, Stuck, Read, ◌>>=◌}
use Rattle.pli_phrase.specs.Tokens.{is_terminal, starts, taken}
use Rattle.pli_phrase.specs.Lists.{past_comma}
use Rattle.pli_phrase.specs.Reading.{expr_from, item_due, items_from, exprs_with}
use Rattle.pli_phrase.proofs.Expressions.{expr_sound}

-- what a list goes on with behind an expression
abbrev pub Further : ℕ → Bool → List ℕ → List T.Expr → Cursor × Bool → Read T.Exprs
Further n are s before c = if c.1 then items_from n are s before c.0 else Ok (exprs_with before T.NoExpr, c.0)

abbrev pub taken_if : Bool → Token → Cursor → Read Token
taken_if b t d = if b then Ok (t, d) else Err Stuck

abbrev pub past_with : Bool → Cursor → Cursor → Cursor × Bool
past_with b c d = if b then (d, true) else (c, false)

comma_if : (n : ℕ) (are : Bool) (s : List ℕ) (before : List T.Expr) (t : Token) (c d : Cursor) (b : Bool) → (if b then (taken_if b t d >>= λ comma. items_from n are s before comma.1) else Ok (exprs_with before T.NoExpr, c)) ≡ Further n are s before (past_with b c d)
comma_if n are s before t c d true = refl
comma_if n are s before t c d false = refl

comma_step : (n : ℕ) (are : Bool) (s : List ℕ) (before : List T.Expr) (ts : List Token) (m : Marks) → (if starts (K.Symbol S.Comma) ts then (taken (K.Symbol S.Comma) (record { tokens = ts; marks = m }) >>= λ comma. items_from n are s before comma.1) else Ok (exprs_with before T.NoExpr, record { tokens = ts; marks = m })) ≡ Further n are s before (past_comma (record { tokens = ts; marks = m }))
unfolding taken
comma_step n are s before [] m = refl
comma_step n are s before (t ∷ ts) m =
    comma_if n are s before t (record { tokens = t ∷ ts; marks = m }) (record { tokens = ts; marks = m }) (is_terminal (K.Symbol S.Comma) t.kind)

items_next : (n : ℕ) (are : Bool) (s : List ℕ) (before : List T.Expr) (c : Cursor) (e : T.Expr) (b : Cursor) → expr_from s (item_due are c) ≡ Ok (e, b) → items_from (suc n) are s before c ≡ Further n are s (e ∷ before) (past_comma b)
unfolding items_from
items_next n are s before c e b h =
    ap (λ r. r >>= λ x. (if starts (K.Symbol S.Comma) x.1.tokens then (taken (K.Symbol S.Comma) x.1 >>= λ comma. items_from n are s (x.0 ∷ before) comma.1) else Ok (exprs_with (x.0 ∷ before) T.NoExpr, x.1))) h ∙ comma_step n are s (e ∷ before) b.tokens b.marks

items_miss : (n : ℕ) (are : Bool) (s : List ℕ) (before : List T.Expr) (c : Cursor) (at : Missed) → expr_from s (item_due are c) ≡ Err at → items_from (suc n) are s before c ≡ Err at
unfolding items_from
items_miss n are s before c at h =
    ap (λ r. r >>= λ x. (if starts (K.Symbol S.Comma) x.1.tokens then (taken (K.Symbol S.Comma) x.1 >>= λ comma. items_from n are s (x.0 ∷ before) comma.1) else Ok (exprs_with (x.0 ∷ before) T.NoExpr, x.1))) h

pub items_on : (n : ℕ) (are : Bool) (s : List ℕ) (before : List T.Expr) (c : Cursor) (e : T.Expr) (b : Cursor) → 0 < n → expr_from s (item_due are c) ≡ Ok (e, b) → items_from n are s before c ≡ Further (n - 1) are s (e ∷ before) (past_comma b)
items_on zero are s before c e b z h = absurd (omega (arith, z))
items_on (suc n) are s before c e b z h =
    let eq : n ≡ suc n - 1 = omega arith in
    items_next n are s before c e b h ∙ ap (λ u. Further u are s (e ∷ before) (past_comma b)) eq

pub items_fail : (n : ℕ) (are : Bool) (s : List ℕ) (before : List T.Expr) (c : Cursor) (at : Missed) → 0 < n → expr_from s (item_due are c) ≡ Err at → items_from n are s before c ≡ Err at
items_fail zero are s before c at z h = absurd (omega (arith, z))
items_fail (suc n) are s before c at z h = items_miss n are s before c at h

past_if : (ts us : List Token) (m : Marks) (b : Bool) → length us ≤ length ts → length (past_with b (record { tokens = ts; marks = m }) (record { tokens = us; marks = m })).0.tokens ≤ length ts
past_if ts us m true h = h
past_if ts us m false h = omega arith

past_less : (ts : List Token) (m : Marks) → length (past_comma (record { tokens = ts; marks = m })).0.tokens ≤ length ts
past_less [] m = omega arith
past_less (t ∷ ts) m = past_if (t ∷ ts) ts m (is_terminal (K.Symbol S.Comma) t.kind) (omega arith)

due_tokens : (are : Bool) (c : Cursor) → (item_due are c).tokens ≡ c.tokens
due_tokens true c = refl
due_tokens false c = refl

pub list_smaller : (are : Bool) (s : List ℕ) (c : Cursor) (e : T.Expr) (b : Cursor) → expr_from s (item_due are c) ≡ Ok (e, b) → length (past_comma b).0.tokens < length c.tokens
list_smaller are s c e b h =
    let x = expr_sound s (item_due are c) (e, b) h in
    omega (arith, x.shorter, past_less b.tokens b.marks, ap length (due_tokens are c))

-- the list from here on is what is wanted, with fuel enough for the tokens that are left
pub record OnList (are : Bool) (s : List ℕ) (before : List T.Expr) (c : Cursor) (goes_on : Bool) (target : Read T.Exprs) : Type 0 where
  pub fuel : ℕ
  pub enough : length c.tokens < fuel
  pub reads : Further fuel are s before (c, goes_on) ≡ target

pub list_start : (are : Bool) (s : List ℕ) (c : Cursor) → OnList are s [] c true (items_from (suc (length c.tokens)) are s [] c)
list_start are s c = record { fuel = suc (length c.tokens); enough = omega arith; reads = refl }

pub list_on : (are : Bool) (s : List ℕ) (before : List T.Expr) (c : Cursor) (target : Read T.Exprs) (e : T.Expr) (b : Cursor) → OnList are s before c true target → expr_from s (item_due are c) ≡ Ok (e, b) → OnList are s (e ∷ before) (past_comma b).0 (past_comma b).1 target
list_on are s before c target e b w h =
    record {
      fuel = w.fuel - 1;
      enough = omega (arith, list_smaller are s c e b h, w.enough);
      reads = sym (items_on w.fuel are s before c e b (omega (arith, w.enough)) h) ∙ w.reads;
    }

pub list_fails : (are : Bool) (s : List ℕ) (before : List T.Expr) (c : Cursor) (target : Read T.Exprs) (at : Missed) → OnList are s before c true target → expr_from s (item_due are c) ≡ Err at → target ≡ Err at
list_fails are s before c target at w h = sym w.reads ∙ items_fail w.fuel are s before c at (omega (arith, w.enough)) h

pub list_ends : (are : Bool) (s : List ℕ) (before : List T.Expr) (c : Cursor) (target : Read T.Exprs) → OnList are s before c false target → target ≡ Ok (exprs_with before T.NoExpr, c)
list_ends are s before c target w = sym w.reads
