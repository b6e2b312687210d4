-- The symbols and `**` as bytes, against the table of what each symbol is spelled as.
use Rattle.std.proofs.Common.{◌≡◌, ℕ, zero, suc, List, [], ◌∷◌, Bool, true, false, cond, refl, sym, ◌∙◌, ap, subst, eqb, Option, Some, None, arith, lit<}
use Rattle.std.specs.Prelude.{not, ◌==◌, ◌&&◌, ◌||◌, if◌then◌else◌, Contains}
use Rattle.std.specs.List.{list_all}
use lib.Chars.{codes}
use Rattle.std.proofs.lemmas.Bool.{eqb-true, cond-false, and_parts, and_left, not-true, both_ways}
use Rattle.pli_language.specs.declared.token.Symbol.{Symbol}
use Rattle.pli_language.specs.declared.token.Symbol.TheVariants as S
use Rattle.pli_language.specs.declared.token.Kind.TheVariants as K
use Rattle.pli_language.specs.Tokens.{is_digit, is_name_start, quote, symbol_spellings, Lexeme, Read, Power, Spelled, symbol, power}
use Rattle.pli_lex.specs.Symbols.{single, single_in, single_bytes, pair, pair_in, byte_pairs}

abbrev pub read_symbol : Option Symbol → Option Lexeme
read_symbol None = None
read_symbol (Some s) = Some (Read (K.Symbol s))

-- what one or two bytes spell that is always spelled so
abbrev pub fixed : List ℕ → Option Lexeme
fixed [] = None
fixed (b ∷ []) = read_symbol (single b)
fixed (b ∷ c ∷ []) = if b == 42 && c == 42 then Some Power else read_symbol (pair b c)
fixed (b ∷ c ∷ d ∷ rest) = None

-- ---- what is spelled so has its entry

at_one : (x w : List ℕ) (P : List ℕ → Type 0) → Contains (x ∷ []) w → P x → P w
at_one x w P (zero, inside, e) p = subst P e p
at_one x w P (suc k, inside, e) p = absurd (omega arith)

at_two : (x y w : List ℕ) (P : List ℕ → Type 0) → Contains (x ∷ y ∷ []) w → P x → P y → P w
at_two x y w P (zero, inside, e) p q = subst P e p
at_two x y w P (suc zero, inside, e) p q = subst P e q
at_two x y w P (suc (suc k), inside, e) p q = absurd (omega arith)

abbrev IsFixed : Symbol → List ℕ → Type 0
IsFixed s w = fixed w ≡ Some (Read (K.Symbol s))

pub fixed-symbol : (s : Symbol) (w : List ℕ) → Contains (symbol_spellings s) w → fixed w ≡ Some (Read (K.Symbol s))
fixed-symbol S.Plus w h = at_one _ w (IsFixed S.Plus) h refl
fixed-symbol S.Minus w h = at_one _ w (IsFixed S.Minus) h refl
fixed-symbol S.Times w h = at_one _ w (IsFixed S.Times) h refl
fixed-symbol S.Divide w h = at_one _ w (IsFixed S.Divide) h refl
fixed-symbol S.Equal w h = at_one _ w (IsFixed S.Equal) h refl
fixed-symbol S.NotEqual w h = at_one _ w (IsFixed S.NotEqual) h refl
fixed-symbol S.Less w h = at_one _ w (IsFixed S.Less) h refl
fixed-symbol S.Greater w h = at_one _ w (IsFixed S.Greater) h refl
fixed-symbol S.LessOrEqual w h = at_two _ _ w (IsFixed S.LessOrEqual) h refl refl
fixed-symbol S.GreaterOrEqual w h = at_two _ _ w (IsFixed S.GreaterOrEqual) h refl refl
fixed-symbol S.Join w h = at_one _ w (IsFixed S.Join) h refl
fixed-symbol S.And w h = at_one _ w (IsFixed S.And) h refl
fixed-symbol S.Or w h = at_one _ w (IsFixed S.Or) h refl
fixed-symbol S.Not w h = at_one _ w (IsFixed S.Not) h refl
fixed-symbol S.OpenParenthesis w h = at_one _ w (IsFixed S.OpenParenthesis) h refl
fixed-symbol S.CloseParenthesis w h = at_one _ w (IsFixed S.CloseParenthesis) h refl
fixed-symbol S.Comma w h = at_one _ w (IsFixed S.Comma) h refl
fixed-symbol S.Semicolon w h = at_one _ w (IsFixed S.Semicolon) h refl
fixed-symbol S.Colon w h = at_one _ w (IsFixed S.Colon) h refl
fixed-symbol S.Point w h = at_one _ w (IsFixed S.Point) h refl
fixed-symbol S.Arrow w h = at_one _ w (IsFixed S.Arrow) h refl

-- ---- what has an entry is spelled so

abbrev AllSingle : List (ℕ × Symbol) → Type 0
AllSingle [] = Unit {0}
AllSingle (e ∷ es) = Contains (symbol_spellings e.1) (e.0 ∷ []) × AllSingle es

abbrev AllPairs : List (ℕ × ℕ × Symbol) → Type 0
AllPairs [] = Unit {0}
AllPairs (e ∷ es) = Contains (symbol_spellings e.2) (e.0 ∷ e.1 ∷ []) × AllPairs es

single_spelled : AllSingle single_bytes
single_spelled = ((0, lit< tt, refl), ((0, lit< tt, refl), ((0, lit< tt, refl), ((0, lit< tt, refl), ((0, lit< tt, refl), ((0, lit< tt, refl), ((0, lit< tt, refl), ((0, lit< tt, refl), ((0, lit< tt, refl), ((0, lit< tt, refl), ((0, lit< tt, refl), ((0, lit< tt, refl), ((0, lit< tt, refl), ((0, lit< tt, refl), ((0, lit< tt, refl), ((0, lit< tt, refl), tt))))))))))))))))

pairs_spelled : AllPairs byte_pairs
pairs_spelled = ((0, lit< tt, refl), ((0, lit< tt, refl), ((1, lit< tt, refl), ((0, lit< tt, refl), ((1, lit< tt, refl), ((0, lit< tt, refl), ((0, lit< tt, refl), tt)))))))

single_entry_by : (e : ℕ × Symbol) (es : List (ℕ × Symbol)) (b : ℕ) (s : Symbol) (t : Bool) → eqb b e.0 ≡ t → Contains (symbol_spellings e.1) (e.0 ∷ []) → cond t (Some e.1) (single_in es b) ≡ Some s → (single_in es b ≡ Some s → Contains (symbol_spellings s) (b ∷ [])) → Contains (symbol_spellings s) (b ∷ [])
single_entry_by e es b s true q h is next =
    let same : e.1 ≡ s = cc in
    let byte : e.0 ≡ b = sym (eqb-true b e.0 q) in
    subst (λ x. Contains (symbol_spellings x) (b ∷ [])) same (subst (λ c. Contains (symbol_spellings e.1) (c ∷ [])) byte h)
single_entry_by e es b s false q h is next = next is

single_entry : (es : List (ℕ × Symbol)) (b : ℕ) (s : Symbol) → AllSingle es → single_in es b ≡ Some s → Contains (symbol_spellings s) (b ∷ [])
single_entry [] b s h is = absurd (cc)
single_entry (e ∷ es) b s h is = single_entry_by e es b s (eqb b e.0) refl h.0 is (λ x. single_entry es b s h.1 x)

pair_entry_by : (e : ℕ × ℕ × Symbol) (es : List (ℕ × ℕ × Symbol)) (b c : ℕ) (s : Symbol) (t : Bool) → (eqb b e.0 && eqb c e.1) ≡ t → Contains (symbol_spellings e.2) (e.0 ∷ e.1 ∷ []) → cond t (Some e.2) (pair_in es b c) ≡ Some s → (pair_in es b c ≡ Some s → Contains (symbol_spellings s) (b ∷ c ∷ [])) → Contains (symbol_spellings s) (b ∷ c ∷ [])
pair_entry_by e es b c s true q h is next =
    let both = and_parts (eqb b e.0) (eqb c e.1) q in
    let same : e.2 ≡ s = cc in
    let bytes : e.0 ∷ e.1 ∷ [] ≡ b ∷ c ∷ [] = λ k. sym (eqb-true b e.0 both.0) k ∷ sym (eqb-true c e.1 both.1) k ∷ [] in
    subst (λ x. Contains (symbol_spellings x) (b ∷ c ∷ [])) same (subst (λ w. Contains (symbol_spellings e.2) w) bytes h)
pair_entry_by e es b c s false q h is next = next is

pair_entry : (es : List (ℕ × ℕ × Symbol)) (b c : ℕ) (s : Symbol) → AllPairs es → pair_in es b c ≡ Some s → Contains (symbol_spellings s) (b ∷ c ∷ [])
pair_entry [] b c s h is = absurd (cc)
pair_entry (e ∷ es) b c s h is = pair_entry_by e es b c s (eqb b e.0 && eqb c e.1) refl h.0 is (λ x. pair_entry es b c s h.1 x)

symbol_spelled : (w rest : List ℕ) (o : Option Symbol) (x : Lexeme) → read_symbol o ≡ Some x → ((s : Symbol) → o ≡ Some s → Contains (symbol_spellings s) w) → Spelled w rest x
symbol_spelled w rest None x e h = absurd (cc)
symbol_spelled w rest (Some s) x e h =
    let is : Read (K.Symbol s) ≡ x = cc in
    subst (Spelled w rest) is (symbol s (h s refl))

pair_spelled : (b c : ℕ) (rest : List ℕ) (x : Lexeme) (t : Bool) → (eqb b 42 && eqb c 42) ≡ t → cond t (Some Power) (read_symbol (pair b c)) ≡ Some x → Spelled (b ∷ c ∷ []) rest x
pair_spelled b c rest x true q e =
    let both = and_parts (eqb b 42) (eqb c 42) q in
    let is : Power ≡ x = cc in
    let stars : b ∷ c ∷ [] ≡ codes "**" = λ k. eqb-true b 42 both.0 k ∷ eqb-true c 42 both.1 k ∷ [] in
    subst (Spelled (b ∷ c ∷ []) rest) is (power stars)
pair_spelled b c rest x false q e = symbol_spelled (b ∷ c ∷ []) rest (pair b c) x e (λ s h. pair_entry byte_pairs b c s pairs_spelled h)

pub fixed-spelled : (w rest : List ℕ) (x : Lexeme) → fixed w ≡ Some x → Spelled w rest x
fixed-spelled [] rest x e = absurd (cc)
fixed-spelled (b ∷ []) rest x e = symbol_spelled (b ∷ []) rest (single b) x e (λ s h. single_entry single_bytes b s single_spelled h)
fixed-spelled (b ∷ c ∷ []) rest x e = pair_spelled b c rest x (eqb b 42 && eqb c 42) refl e
fixed-spelled (b ∷ c ∷ d ∷ more) rest x e = absurd (cc)

-- ---- no symbol begins as a name, a number or a text does

abbrev pub begins_other : ℕ → Bool
begins_other b = is_name_start b || (is_digit b || b == quote)

single_apart_by : (e : ℕ × Symbol) (es : List (ℕ × Symbol)) (b : ℕ) (t : Bool) → eqb b e.0 ≡ t → not (begins_other e.0) ≡ true → begins_other b ≡ true → single_in es b ≡ None → cond t (Some e.1) (single_in es b) ≡ None
single_apart_by e es b true q apart begins next = absurd (both_ways (begins_other b) (ap begins_other (eqb-true b e.0 q) ∙ not-true _ apart) begins)
single_apart_by e es b false q apart begins next = next

single_apart : (es : List (ℕ × Symbol)) (b : ℕ) → list_all (λ e. not (begins_other e.0)) es ≡ true → begins_other b ≡ true → single_in es b ≡ None
single_apart [] b apart begins = refl
single_apart (e ∷ es) b apart begins =
    let parts = and_parts (not (begins_other e.0)) (list_all (λ (x : ℕ × Symbol). not (begins_other x.0)) es) apart in
    single_apart_by e es b (eqb b e.0) refl parts.0 begins (single_apart es b parts.1 begins)

pair_apart_by : (e : ℕ × ℕ × Symbol) (es : List (ℕ × ℕ × Symbol)) (b c : ℕ) (t : Bool) → (eqb b e.0 && eqb c e.1) ≡ t → not (begins_other e.0) ≡ true → begins_other b ≡ true → pair_in es b c ≡ None → cond t (Some e.2) (pair_in es b c) ≡ None
pair_apart_by e es b c true q apart begins next =
    let both = and_parts (eqb b e.0) (eqb c e.1) q in
    absurd (both_ways (begins_other b) (ap begins_other (eqb-true b e.0 both.0) ∙ not-true _ apart) begins)
pair_apart_by e es b c false q apart begins next = next

pair_apart : (es : List (ℕ × ℕ × Symbol)) (b c : ℕ) → list_all (λ e. not (begins_other e.0)) es ≡ true → begins_other b ≡ true → pair_in es b c ≡ None
pair_apart [] b c apart begins = refl
pair_apart (e ∷ es) b c apart begins =
    let parts = and_parts (not (begins_other e.0)) (list_all (λ (x : ℕ × ℕ × Symbol). not (begins_other x.0)) es) apart in
    pair_apart_by e es b c (eqb b e.0 && eqb c e.1) refl parts.0 begins (pair_apart es b c parts.1 begins)

other_byte_by : (b n : ℕ) (t : Bool) → eqb b n ≡ t → begins_other n ≡ false → begins_other b ≡ true → t ≡ false
other_byte_by b n true q apart begins = absurd (both_ways (begins_other b) (ap begins_other (eqb-true b n q) ∙ apart) begins)
other_byte_by b n false q apart begins = refl

-- no byte of these is another one
pub other_byte : (b n : ℕ) → begins_other n ≡ false → begins_other b ≡ true → eqb b n ≡ false
other_byte b n apart begins = other_byte_by b n (eqb b n) refl apart begins

pub fixed-apart : (b : ℕ) (w : List ℕ) → begins_other b ≡ true → fixed (b ∷ w) ≡ None
fixed-apart b [] begins = ap read_symbol (single_apart single_bytes b refl begins)
fixed-apart b (c ∷ []) begins = cond-false _ _ _ (and_left _ _ (other_byte b 42 refl begins)) ∙ ap read_symbol (pair_apart byte_pairs b c refl begins)
fixed-apart b (c ∷ d ∷ w) begins = refl
