-- What reading tells of the beginnings of attributes and of items of DECLARE.
use Rattle.std.specs.Prelude.{◌==◌, if◌then◌else◌}
use Rattle.std.proofs.Common.{◌≡◌, ℕ, suc, List, [], ◌∷◌, Option, Some, None, Bool, true, false, Ok, Err, refl, sym, ap, subst}
use Rattle.pli_language.specs.declared.token.Word.{Word}
use Rattle.pli_language.specs.declared.token.Word.TheVariants as W
use Rattle.pli_language.specs.declared.token.Symbol.TheVariants as S
use Rattle.pli_language.specs.declared.token.Kind.{Kind}
use Rattle.pli_language.specs.declared.token.Kind.TheVariants as K
use Rattle.pli_language.specs.declared.token.Token.{Token}
use Rattle.pli_language.specs.Spells.{next_kind}
use Rattle.pli_language.specs.Attributes.{plain_attribute, is_left_out_attribute}
use Rattle.pli_language.specs.Tree as T
use Rattle.pli_phrase.specs.Cursor.{Cursor, Stuck, Ended, LeavesOut, Read, ◌>>=◌, onto}
use Rattle.pli_phrase.specs.Tokens.{begins, taken, starts_name, name_from, number_from}
use Rattle.pli_phrase.proofs.Prefixes.{longer, is_done, Stays, Open, Prefixes, Steady, firm_bind, Next, Allows, Any, prefix_ok, prefix_as, prefix_bind, steady, steady_err, next_allows, next_not}
use Rattle.pli_phrase.proofs.PhrasePrefixes.{allows_not, firm_number_as, prefix_symbol, prefix_name, prefix_number, prefix_when}
use Rattle.pli_phrase.proofs.FirstPrefixes.{First, prefix_test, Alike, alike_same, prefix_token}
use Rattle.pli_phrase.proofs.WhilePrefixes.{with_front, prefix_while}
use Rattle.pli_attributes.proofs.ExtentPrefixes.{NoParenthesis, stuck, steady_stuck, steady_any, prefix_dimensions, prefix_size, prefix_owner, stops_initials, prefix_initial_items}
use Rattle.pli_attributes.specs.Lists.{enclosed_from}
use Rattle.pli_attributes.specs.Reading.{whole_or_stuck, dimensions_from, scale_from, precision_from, bit_from, size_from, owner_from, initial_items_from, worded, plain_or, attribute_of_kind, attribute_at, attribute_from, attributes_at, attributes_from, declared_name_from, declared_names_from, starts_number, level_from, front, names_from, front_from, item, declare_item_from, declare_items_from}
use Rattle.pli_attributes.proofs.Posts.{post_is}
use Rattle.pli_attributes.proofs.AttributeLaws.{attribute_post}
use Rattle.pli_attributes.proofs.Items.{declared_name_post, declare_item_post}
use Rattle.pli_attributes.proofs.ListPrefixes.{prefix_enclosed, prefix_list}

-- ---- where an attribute's word stands tells only where something is left out

alike_if : {X : Type 0} (b : Bool) (x x' y y' : Read X) → Alike x x' → Alike y y' → Alike (if b then x else y) (if b then x' else y')
alike_if true x x' y y' h i = h
alike_if false x x' y y' h i = i

alike_bind : {X Y : Type 0} (r : Read X) (f g : X × Cursor → Read Y) → ((x : X × Cursor) → Alike (f x) (g x)) → Alike (r >>= f) (r >>= g)
alike_bind (Ok x) f g h = h x
alike_bind (Err Stuck) f g h = refl
alike_bind (Err Ended) f g h = refl
alike_bind (Err (LeavesOut d)) f g h = (d, refl)

alike_then : {X Y : Type 0} (r r' : Read X) (f : X × Cursor → Read Y) → Alike r r' → Alike (r >>= f) (r' >>= f)
alike_then (Ok x) r' f e = subst (λ u. Alike (f x) (u >>= f)) (sym e) (alike_same (f x))
alike_then (Err Stuck) r' f e = ap (λ u. u >>= f) e
alike_then (Err Ended) r' f e = ap (λ u. u >>= f) e
alike_then (Err (LeavesOut d)) r' f e = (e.0, ap (λ u. u >>= f) e.1)

alike_left : {X : Type 0} (b : Bool) (x : Read X) (d e : Cursor) → Alike (if b then x else Err (LeavesOut d)) (if b then x else Err (LeavesOut e))
alike_left true x d e = alike_same x
alike_left false x d e = (e, refl)

alike_scale : (at : List Token) (n : ℕ) (c : Cursor) → Alike (scale_from [] n c) (scale_from at n c)
unfolding scale_from
alike_scale at n c =
    alike_if (begins (K.Symbol S.Comma) c) _ _ _ _ (alike_bind (taken (K.Symbol S.Comma) c) _ _ (λ comma. alike_bind (number_from comma.1) _ _ (λ q. alike_bind (whole_or_stuck (q.0 == 0) (taken (K.Symbol S.CloseParenthesis) q.1)) _ _ (λ u. alike_left {X = Option ℕ} (q.0 == 0) (Ok (Some n, u.1)) (onto [] u.1) (onto at u.1))))) (alike_same (taken (K.Symbol S.CloseParenthesis) c >>= λ u. Ok (Some n, u.1)))

alike_precision : (at : List Token) (c : Cursor) → Alike (precision_from [] c) (precision_from at c)
unfolding precision_from
alike_precision at c =
    alike_if (begins (K.Symbol S.OpenParenthesis) c) _ _ _ _ (alike_bind (taken (K.Symbol S.OpenParenthesis) c) _ _ (λ t. alike_bind (number_from t.1) _ _ (λ n. alike_scale at n.0 n.1))) refl

alike_bits : (at : List Token) (c : Cursor) → Alike (bit_from [] c) (bit_from at c)
unfolding bit_from
alike_bits at c =
    alike_if (begins (K.Symbol S.OpenParenthesis) c) _ _ _ _ (alike_bind (taken (K.Symbol S.OpenParenthesis) c) _ _ (λ t. alike_bind (number_from t.1) _ _ (λ n. alike_bind (whole_or_stuck (n.0 == 1) (taken (K.Symbol S.CloseParenthesis) n.1)) _ _ (λ u. alike_left {X = T.Attribute} (n.0 == 1) (Ok (T.BitOne, u.1)) (onto [] u.1) (onto at u.1))))) refl

alike_other : (b : Bool) (d e : Cursor) → Alike {X = T.Attribute} (if b then Err (LeavesOut d) else Err Stuck) (if b then Err (LeavesOut e) else Err Stuck)
alike_other true d e = (e, refl)
alike_other false d e = refl

alike_word : (s : List ℕ) (at : List Token) (word : Word) (c : Cursor) → Alike (worded s [] word c) (worded s at word c)
alike_word s at W.Fixed c = alike_then (precision_from [] c) (precision_from at c) (λ p. Ok (T.Fixed p.0, p.1)) (alike_precision at c)
alike_word s at W.Binary c = alike_then (precision_from [] c) (precision_from at c) (λ p. Ok (T.Binary p.0, p.1)) (alike_precision at c)
alike_word s at W.Character c = alike_same (worded s [] W.Character c)
alike_word s at W.Bit c = alike_bits at c
alike_word s at W.Offset c = alike_same (worded s [] W.Offset c)
alike_word s at W.Area c = alike_same (worded s [] W.Area c)
alike_word s at W.Based c = alike_same (worded s [] W.Based c)
alike_word s at W.Initial c = alike_same (worded s [] W.Initial c)
alike_word s at word c = alike_other (is_left_out_attribute word) (onto [] c) (onto at c)

alike_plain : (s : List ℕ) (at : List Token) (word : Word) (o : Option T.Attribute) (c : Cursor) → Alike (plain_or o c (worded s [] word c)) (plain_or o c (worded s at word c))
alike_plain s at word (Some a) c = refl
alike_plain s at word None c = alike_word s at word c

alike_kind : (s : List ℕ) (at : List Token) (k : Kind) (c : Cursor) → Alike (attribute_of_kind s [] k c) (attribute_of_kind s at k c)
alike_kind s at (K.Name word) c = alike_plain s at word (plain_attribute word) c
alike_kind s at _ c = refl

-- ---- what may stand behind

abbrev pub stops_attributes : Option Kind → Bool
stops_attributes (Some (K.Name word)) = false
stops_attributes (Some (K.Symbol S.OpenParenthesis)) = false
stops_attributes _ = true

abbrev pub stops_items : Option Kind → Bool
stops_items (Some (K.Symbol S.Comma)) = false
stops_items o = stops_attributes o

attributes_no_name : (o : Option Kind) → stops_attributes o ≡ true → starts_name o ≡ false
attributes_no_name (Some (K.Name word)) e = absurd (cc e)
attributes_no_name _ e = refl

items_attributes : (o : Option Kind) → stops_items o ≡ true → stops_attributes o ≡ true
items_attributes (Some (K.Symbol S.Comma)) e = refl
items_attributes _ e = e

pub attributes_end : (w : List Token) → Allows stops_attributes w → NoParenthesis w × (starts_name (next_kind w) ≡ false)
attributes_end w h = (allows_not stops_attributes (K.Symbol S.OpenParenthesis) w refl h, attributes_no_name (next_kind w) h)

abbrev stops_names : Option Kind → Bool
stops_names (Some (K.Symbol S.OpenParenthesis)) = false
stops_names (Some (K.Symbol S.Comma)) = false
stops_names _ = true

-- ---- names of items

pub prefix_declared_name : {F : List Token → Type 0} (s : List ℕ) → ((w : List Token) → F w → NoParenthesis w) → Prefixes (Next (K.Name W.Other)) F (declared_name_from s)
unfolding declared_name_from
prefix_declared_name s stop =
    prefix_bind (name_from s) (λ n. dimensions_from s n.1 >>= λ bs. Ok (record { name = n.0; dimensions = bs.0 }, bs.1)) (prefix_name s)
    (λ n. prefix_bind (dimensions_from s) (λ bs. Ok (record { name = n; dimensions = bs.0 }, bs.1)) (prefix_dimensions s stop) (λ bs. prefix_ok (record { name = n; dimensions = bs })) (λ w h. h))
    (λ w h. tt)

pub prefix_declared_names : (s : List ℕ) → Prefixes (Next (K.Name W.Other)) (Allows stops_names) (declared_names_from s)
unfolding declared_names_from
prefix_declared_names s =
    prefix_list (λ before. declared_name_from s) (λ before c x e. (post_is (declared_name_post s c) e).shorter) (λ before. prefix_declared_name s (λ w h. h)) (λ w h. (allows_not stops_names (K.Symbol S.OpenParenthesis) w refl h, allows_not stops_names (K.Symbol S.Comma) w refl h))

pub prefix_level : {F : List Token → Type 0} → ((w : List Token) → F w → starts_number (next_kind w) ≡ false) → Prefixes F F level_from
unfolding level_from
prefix_level stop =
    prefix_test starts_number refl (λ c. number_from c >>= λ n. Ok (Some n.0, n.1)) (λ c. Ok (None, c)) (steady_any (prefix_bind number_from (λ n. Ok (Some n.0, n.1)) prefix_number (λ n. prefix_ok {F = Any} (Some n)) (λ w h. tt))) (prefix_ok None) stop

pub prefix_names : {F : List Token → Type 0} (s : List ℕ) (n : Option ℕ) → ((w : List Token) → F w → NoParenthesis w) → Prefixes (Next (K.Name W.Other)) F (names_from s n)
unfolding names_from
prefix_names {F} s n stop =
    prefix_when (K.Symbol S.OpenParenthesis) (λ c. enclosed_from (declared_names_from s) c >>= λ ds. dimensions_from s ds.1 >>= λ bs. Ok (front n ds.0 bs.0, bs.1)) (λ c. declared_name_from s c >>= λ d. Ok (front n (d.0 ∷ []) [], d.1))
    (steady (prefix_bind (enclosed_from (declared_names_from s)) (λ ds. dimensions_from s ds.1 >>= λ bs. Ok (front n ds.0 bs.0, bs.1)) (prefix_enclosed (declared_names_from s) (prefix_declared_names s) (λ w h. next_allows stops_names (K.Symbol S.CloseParenthesis) w refl h))
    (λ ds. prefix_bind (dimensions_from s) (λ bs. Ok (front n ds bs.0, bs.1)) (prefix_dimensions {F = F} s stop) (λ bs. prefix_ok (front n ds bs)) (λ w h. h))
    (λ w h. tt)))
    (prefix_bind (declared_name_from s) (λ d. Ok (front n (d.0 ∷ []) [], d.1)) (prefix_declared_name {F = F} s stop) (λ d. prefix_ok (front n (d ∷ []) [])) (λ w h. h))
    (λ w h. next_not (K.Symbol S.OpenParenthesis) (K.Name W.Other) w refl h)

pub prefix_front : {F : List Token → Type 0} (s : List ℕ) → ((w : List Token) → F w → NoParenthesis w) → Prefixes (Next (K.Name W.Other)) F (front_from s)
unfolding front_from
prefix_front s stop =
    prefix_bind level_from (λ n. names_from s n.0 n.1) (prefix_level {F = Next (K.Name W.Other)} (λ w h. ap starts_number h)) (λ n. prefix_names s n stop) (λ w h. h)

-- ---- attributes

-- what a closing parenthesis leaves out is never done
abbrev doomed : (X : Type 0) → Read Token → Read X
doomed X r = whole_or_stuck false r >>= λ u. Err (LeavesOut (onto [] u.1))

doomed_closed : (X : Type 0) (r : Read Token) → Open (doomed X r) → ⊥
doomed_closed X (Ok u) o = o
doomed_closed X (Err Stuck) o = o
doomed_closed X (Err Ended) o = o
doomed_closed X (Err (LeavesOut d)) o = o

doomed_not_done : (X : Type 0) (r : Read Token) → is_done (doomed X r) ≡ false
doomed_not_done X (Ok u) = refl
doomed_not_done X (Err Stuck) = refl
doomed_not_done X (Err Ended) = refl
doomed_not_done X (Err (LeavesOut d)) = refl

doomed_stays : (X : Type 0) (more : List Token) (r r' : Read Token) → Stays more (doomed X r) (doomed X r')
doomed_stays X more (Ok u) r' = tt
doomed_stays X more (Err Stuck) r' = doomed_not_done X r'
doomed_stays X more (Err Ended) r' = doomed_not_done X r'
doomed_stays X more (Err (LeavesOut d)) r' = tt

-- up to the closing parenthesis, which leaves out what isn't whole
abbrev closing : {X : Type 0} → Bool → X → Cursor → Read X
closing b x c =
    whole_or_stuck b (taken (K.Symbol S.CloseParenthesis) c) >>= λ u. if b then Ok (x, u.1) else Err (LeavesOut (onto [] u.1))

prefix_closing : {X : Type 0} (x : X) → Prefixes (Next (K.Symbol S.CloseParenthesis)) Any (closing true x)
prefix_closing x = prefix_bind (taken (K.Symbol S.CloseParenthesis)) (λ u. Ok (x, u.1)) (prefix_symbol S.CloseParenthesis) (λ u. prefix_ok x) (λ w h. h)

steady_closing : {X : Type 0} (b : Bool) (x : X) → Steady Any (closing b x)
steady_closing true x = steady (prefix_closing x)
steady_closing {X} false x =
    record {
      stays = λ c more. doomed_stays X more (taken (K.Symbol S.CloseParenthesis) c) (taken (K.Symbol S.CloseParenthesis) (longer c more));
      closes = λ c o. absurd (doomed_closed X (taken (K.Symbol S.CloseParenthesis) c) o);
    }

prefix_scale : (n : ℕ) → Prefixes (Next (K.Symbol S.CloseParenthesis)) Any (scale_from [] n)
unfolding scale_from
prefix_scale n =
    prefix_when (K.Symbol S.Comma) (λ c. taken (K.Symbol S.Comma) c >>= λ comma. number_from comma.1 >>= λ q. closing (q.0 == 0) (Some n) q.1) (closing true (Some n))
    (steady (prefix_bind (taken (K.Symbol S.Comma)) (λ comma. number_from comma.1 >>= λ q. closing (q.0 == 0) (Some n) q.1) (prefix_symbol S.Comma) (λ comma. firm_bind number_from (K.Number 0) 0 (λ q. closing (q.0 == 0) (Some n) q.1) (firm_number_as 0) (λ q. steady_closing (q == 0) (Some n)) (λ c e. (prefix_closing (Some n)).opens c e)) (λ w h. tt)))
    (prefix_closing (Some n))
    (λ w h. next_not (K.Symbol S.Comma) (K.Symbol S.CloseParenthesis) w refl h)

prefix_precision : Prefixes NoParenthesis NoParenthesis (precision_from [])
unfolding precision_from
prefix_precision =
    prefix_when (K.Symbol S.OpenParenthesis) (λ c. taken (K.Symbol S.OpenParenthesis) c >>= λ t. number_from t.1 >>= λ n. scale_from [] n.0 n.1) (λ c. Ok (None, c))
    (steady_any (prefix_bind (taken (K.Symbol S.OpenParenthesis)) (λ t. number_from t.1 >>= λ n. scale_from [] n.0 n.1) (prefix_symbol S.OpenParenthesis) (λ t. prefix_bind number_from (λ n. scale_from [] n.0 n.1) prefix_number (λ n. prefix_scale n) (λ w h. tt)) (λ w h. tt)))
    (prefix_ok None) (λ w h. h)

prefix_bit : Prefixes NoParenthesis NoParenthesis (bit_from [])
unfolding bit_from
prefix_bit =
    prefix_when (K.Symbol S.OpenParenthesis) (λ c. taken (K.Symbol S.OpenParenthesis) c >>= λ t. number_from t.1 >>= λ n. closing (n.0 == 1) T.BitOne n.1) (λ c. Ok (T.BitOne, c))
    (steady_any (prefix_bind (taken (K.Symbol S.OpenParenthesis)) (λ t. number_from t.1 >>= λ n. closing (n.0 == 1) T.BitOne n.1) (prefix_symbol S.OpenParenthesis) (λ t. firm_bind number_from (K.Number 1) 1 (λ n. closing (n.0 == 1) T.BitOne n.1) (firm_number_as 1) (λ n. steady_closing (n == 1) T.BitOne) (λ c e. (prefix_closing T.BitOne).opens c e)) (λ w h. tt)))
    (prefix_ok T.BitOne) (λ w h. h)

module _ (s : List ℕ) where
  steady_other : (b : Bool) → Steady NoParenthesis (λ c. if b then Err (LeavesOut (onto [] c)) else stuck {X = T.Attribute} c)
  steady_other true = steady_err (λ c. LeavesOut (onto [] c)) (λ c more. tt) (λ c o. o)
  steady_other false = steady_stuck

  steady_worded : (word : Word) → Steady NoParenthesis (worded s [] word)
  steady_worded W.Fixed = steady (prefix_bind (precision_from []) (λ p. Ok (T.Fixed p.0, p.1)) prefix_precision (λ p. prefix_ok (T.Fixed p)) (λ w h. h))
  steady_worded W.Binary = steady (prefix_bind (precision_from []) (λ p. Ok (T.Binary p.0, p.1)) prefix_precision (λ p. prefix_ok (T.Binary p)) (λ w h. h))
  steady_worded W.Character = steady (prefix_bind (size_from s) (λ n. Ok (T.Character n.0, n.1)) (prefix_size s (λ w h. h)) (λ n. prefix_ok (T.Character n)) (λ w h. h))
  steady_worded W.Bit = steady prefix_bit
  steady_worded W.Offset = steady (prefix_bind (owner_from s) (λ n. Ok (T.Offset n.0, n.1)) (prefix_owner s (λ w h. h)) (λ n. prefix_ok (T.Offset n)) (λ w h. h))
  steady_worded W.Area = steady (prefix_bind (size_from s) (λ n. Ok (T.Area n.0, n.1)) (prefix_size s (λ w h. h)) (λ n. prefix_ok (T.Area n)) (λ w h. h))
  steady_worded W.Based = steady (prefix_bind (owner_from s) (λ n. Ok (T.Based n.0, n.1)) (prefix_owner s (λ w h. h)) (λ n. prefix_ok (T.Based n)) (λ w h. h))
  steady_worded W.Initial =
      steady_any (prefix_bind (enclosed_from (initial_items_from s)) (λ is. Ok (T.Initial is.0, is.1)) (prefix_enclosed (initial_items_from s) (prefix_initial_items s) (λ w h. next_allows stops_initials (K.Symbol S.CloseParenthesis) w refl h)) (λ is. prefix_ok {F = Any} (T.Initial is)) (λ w h. tt))
  steady_worded word = steady_other (is_left_out_attribute word)

  steady_plain : (word : Word) (o : Option T.Attribute) → Steady NoParenthesis (λ c. plain_or o c (worded s [] word c))
  steady_plain word (Some a) = steady (prefix_ok a)
  steady_plain word None = steady_worded word

  steady_kind : (k : Kind) → Steady NoParenthesis (attribute_of_kind s [] k)
  steady_kind (K.Name word) = steady_plain word (plain_attribute word)
  steady_kind _ = steady_stuck

  pub prefix_attribute : Prefixes (First (K.Name W.Pointer)) NoParenthesis (attribute_from s)
  unfolding attribute_from
  prefix_attribute =
      prefix_token (attribute_at s) (λ t k c. attribute_of_kind s [] k c) (K.Name W.Pointer) (λ c. refl) (λ t ts m. alike_kind s (t ∷ ts) t.kind (record { tokens = ts; marks = m })) (λ t k. steady_kind k) (λ c e. e)

  attributes_next : (n : ℕ) (c : Cursor) → attributes_at (suc n) s c ≡ (if starts_name (next_kind c.tokens) then (attribute_from s c >>= λ x. attributes_at n s x.1 >>= with_front x.0) else Ok ([], c))
  unfolding attributes_at
  attributes_next n c = refl

  pub prefix_attributes_as : {F : List Token → Type 0} → ((w : List Token) → F w → NoParenthesis w × (starts_name (next_kind w) ≡ false)) → Prefixes F F (attributes_from s)
  unfolding attributes_from
  prefix_attributes_as ends =
      prefix_while starts_name refl (attribute_from s) (λ n c. attributes_at n s c) attributes_next (λ c x e. (post_is (attribute_post s c) e).shorter) (steady prefix_attribute) ends

  pub prefix_attributes : Prefixes Any (Allows stops_attributes) (attributes_from s)
  prefix_attributes = prefix_as (λ w h. h) (λ w h. tt) (prefix_attributes_as attributes_end)

  -- ---- items

  pub prefix_declare_item : Prefixes (Next (K.Name W.Other)) (Allows stops_attributes) (declare_item_from s)
  unfolding declare_item_from
  prefix_declare_item =
      prefix_bind (front_from s) (λ f. attributes_from s f.1 >>= λ others. Ok (item f.0 others.0, others.1)) (prefix_front s (λ w h. (attributes_end w h).0))
      (λ f. prefix_bind (attributes_from s) (λ others. Ok (item f others.0, others.1)) (prefix_attributes_as attributes_end) (λ others. prefix_ok (item f others)) (λ w h. h))
      (λ w h. h)

  pub prefix_declare_items : Prefixes (Next (K.Name W.Other)) (Allows stops_items) (declare_items_from s)
  unfolding declare_items_from
  prefix_declare_items =
      prefix_list (λ before. declare_item_from s) (λ before c x e. (post_is (declare_item_post s c) e).shorter) (λ before. prefix_declare_item) (λ w h. (items_attributes (next_kind w) h, allows_not stops_items (K.Symbol S.Comma) w refl h))
