-- Laws of what stands in parentheses, and of what may stand there.
use Rattle.std.proofs.Common.{◌≡◌, ◌≢◌, List, Some, Ok, refl}
use Rattle.pli_language.specs.declared.token.Symbol.TheVariants as S
use Rattle.pli_language.specs.declared.token.Kind.TheVariants as K
use Rattle.pli_language.specs.declared.token.Token.{Token}
use Rattle.pli_language.specs.Marks.{Marks}
use Rattle.pli_language.specs.Spells.{Takes, next_kind}
use Rattle.pli_phrase.specs.Cursor.{Cursor, Read}
use Rattle.pli_attributes.specs.Lists.{enclosed_from, optional_from}
use Rattle.pli_attributes.proofs.Posts.{Post, Never, post_ok, post_bind, post_if, post_weaken}
use Rattle.pli_attributes.proofs.Tokens.{TakenBy, taken_post, not_symbol, not_begins, begins_symbol, symbol_read}

-- what was read stood in parentheses
pub data EnclosedBy {X : Type 0} (P : Cursor → X × Cursor → Type 0) (c : Cursor) : X × Cursor → Type 0 where
  enclosed : (t : Token × Cursor) (y : X × Cursor) (u : Token × Cursor) → TakenBy (K.Symbol S.OpenParenthesis) c t → P t.1 y → TakenBy (K.Symbol S.CloseParenthesis) y.1 u → EnclosedBy P c (y.0, u.1)

pub enclosed_post : {X : Type 0} {P : Cursor → X × Cursor → Type 0} (inner : Cursor → Read X) (c : Cursor) → ((d : Cursor) → Post (P d) Never (inner d)) → Post (EnclosedBy P c) Never (enclosed_from inner c)
enclosed_post inner c h =
    post_bind _ _ (taken_post (K.Symbol S.OpenParenthesis) c) (λ t o. post_bind _ _ (h t.1) (λ y k. post_bind _ _ (taken_post (K.Symbol S.CloseParenthesis) y.1) (λ u z. post_ok (enclosed t y u o k z))))

pub optional_post : {X : Type 0} {P : Cursor → X × Cursor → Type 0} {Q : X × Cursor → Type 0} (absent : X) (inner : Cursor → Read X) (c : Cursor) → ((d : Cursor) → Post (P d) Never (inner d)) → (next_kind c.tokens ≢ Some (K.Symbol S.OpenParenthesis) → Q (absent, c)) → ((x : X × Cursor) → EnclosedBy P c x → Q x) → Post Q Never (optional_from absent inner c)
optional_post absent inner c h none some =
    post_if _ _ _ (λ b. post_weaken _ (enclosed_post inner c h) some (λ at l. l)) (λ b. post_ok (none (not_symbol S.OpenParenthesis c.tokens b)))

pub enclosed_read : {X : Type 0} (inner : Cursor → Read X) {ts after mid rest : List Token} {t u : Token} (x : X) (m m' : Marks) → Takes ts (K.Symbol S.OpenParenthesis) t after → inner (record { tokens = after; marks = m }) ≡ Ok (x, record { tokens = mid; marks = m' }) → Takes mid (K.Symbol S.CloseParenthesis) u rest → enclosed_from inner (record { tokens = ts; marks = m }) ≡ Ok (x, record { tokens = rest; marks = m' })
enclosed_read inner x m m' o h z =
    let a = symbol_read S.OpenParenthesis m o in
    let b = symbol_read S.CloseParenthesis m' z in
    rw (a, h, b) refl

pub optional_read : {X : Type 0} (absent : X) (inner : Cursor → Read X) {ts after mid rest : List Token} {t u : Token} (x : X) (m m' : Marks) → Takes ts (K.Symbol S.OpenParenthesis) t after → inner (record { tokens = after; marks = m }) ≡ Ok (x, record { tokens = mid; marks = m' }) → Takes mid (K.Symbol S.CloseParenthesis) u rest → optional_from absent inner (record { tokens = ts; marks = m }) ≡ Ok (x, record { tokens = rest; marks = m' })
optional_read absent inner x m m' o h z =
    let a = symbol_read S.OpenParenthesis m o in
    let b = symbol_read S.CloseParenthesis m' z in
    let d = begins_symbol S.OpenParenthesis o in
    rw (d, a, h, b) refl

pub optional_absent : {X : Type 0} (absent : X) (inner : Cursor → Read X) (ts : List Token) (m : Marks) → next_kind ts ≢ Some (K.Symbol S.OpenParenthesis) → optional_from absent inner (record { tokens = ts; marks = m }) ≡ Ok (absent, record { tokens = ts; marks = m })
optional_absent absent inner ts m n =
    let d = not_begins (K.Symbol S.OpenParenthesis) ts n in
    rw d refl
