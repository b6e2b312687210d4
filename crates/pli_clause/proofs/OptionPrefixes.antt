-- What reading tells of the beginnings of options of procedures.
use Rattle.std.proofs.Common.{◌≡◌, ℕ, zero, suc, ◌<◌, ◌≤◌, List, [], ◌∷◌, ◌++◌, length, Bool, true, false, Some, Ok, Err, refl, sym, ap, ◌∙◌, subst, arith}
use Rattle.std.specs.Prelude.{⊤, if◌then◌else◌}
use Rattle.pli_language.specs.declared.token.Word.{Word}
use Rattle.pli_language.specs.declared.token.Word.TheVariants as W
use Rattle.pli_language.specs.declared.token.Symbol.TheVariants as S
use Rattle.pli_language.specs.declared.token.Kind.{Kind}
use Rattle.pli_language.specs.declared.token.Kind.TheVariants as K
use Rattle.pli_language.specs.declared.token.Token.{Token}
use Rattle.pli_language.specs.Marks.{Marks}
use Rattle.pli_language.specs.Spells.{next_kind}
use Rattle.pli_language.specs.Tree as T
use Rattle.pli_phrase.specs.Cursor.{Cursor, Stuck, Ended, Read, ◌>>=◌}
use Rattle.pli_phrase.specs.Tokens.{is_terminal, starts, taken, starts_name}
use Rattle.pli_phrase.proofs.Prefixes.{longer, Open, Prefixes, Any, Next, next_allows, Steady, made, prefix_ok, prefix_bind, prefix_taken, steady, steady_err, firm_bind}
use Rattle.pli_phrase.proofs.PhrasePrefixes.{prefix_symbol}
use Rattle.pli_phrase.proofs.PrefixesAt.{At, at, anything, at_one, at_all, at_as, at_some, at_end, at_done, at_test, at_bind, at_map, loop_at, bind_same, taken_none}
use Rattle.pli_attributes.specs.Lists.{enclosed_from}
use Rattle.pli_attributes.specs.Reading.{attribute_of_kind, attribute_from, attributes_at, attributes_from}
use Rattle.pli_attributes.proofs.Posts.{post_is}
use Rattle.pli_attributes.proofs.AttributeLaws.{attribute_post}
use Rattle.pli_attributes.proofs.ListPrefixes.{prefix_enclosed}
use Rattle.pli_attributes.proofs.AttributePrefixes.{stops_attributes, attributes_end, prefix_attribute, prefix_attributes_as}
use Rattle.pli_clause.specs.Parts.{word_from}
use Rattle.pli_clause.specs.Reading.{main_from, returning, returns_from, option_behind, option_from, options_at, options_from}
use Rattle.pli_clause.proofs.OptionLaws.{option_post}
use Rattle.pli_clause.proofs.ClausePrefixes.{firm_word_as}

module _ {P Fa Fb : List Token → Type 0} (s : List ℕ) (attribute : Prefixes P Fa (attribute_from s)) (attributes : Prefixes Fb Fb (attributes_from s)) (behind : (w : List Token) → Fb w → Fa w) (close : (w : List Token) → Next (K.Symbol S.CloseParenthesis) w → Fb w) where
  -- ---- RETURNS: at least one attribute stands there

  abbrev Attributes : Type 0
  Attributes = Read (List T.Attribute)

  -- an attribute, and those behind it
  abbrev with_others : (Cursor → Attributes) → T.Attribute × Cursor → Attributes
  with_others rest a = rest a.1 >>= λ others. Ok (a.0 ∷ others.0, others.1)

  others_same : (rest rest' : Cursor → Attributes) (a : T.Attribute × Cursor) → rest a.1 ≡ rest' a.1 → with_others rest a ≡ with_others rest' a
  others_same rest rest' a e = ap (λ r. r >>= λ others. Ok (a.0 ∷ others.0, others.1)) e

  attribute_less : (c : Cursor) (a : T.Attribute × Cursor) → attribute_from s c ≡ Ok a → length a.1.tokens < length c.tokens
  attribute_less c a e = (post_is (attribute_post s c) e).shorter

  attributes_same : (n n' : ℕ) (c : Cursor) → length c.tokens < n → length c.tokens < n' → attributes_at n s c ≡ attributes_at n' s c
  unfolding attributes_at
  attributes_same zero n' c l l' = absurd (omega (arith, l))
  attributes_same (suc n) zero c l l' = absurd (omega (arith, l'))
  attributes_same (suc n) (suc n') c l l' =
      ap (λ r. if starts_name (next_kind c.tokens) then r else Ok ([], c)) (bind_same (attribute_from s c) (with_others (attributes_at n s)) (with_others (attributes_at n' s)) (λ a e. others_same (attributes_at n s) (attributes_at n' s) a (attributes_same n n' a.1 (omega (arith, l, attribute_less c a e)) (omega (arith, l', attribute_less c a e)))))

  -- one attribute or more
  abbrev some_attributes : Cursor → Attributes
  some_attributes c = attribute_from s c >>= λ a. with_others (attributes_from s) a

  attributes_are : (c : Cursor) → attributes_from s c ≡ (if starts_name (next_kind c.tokens) then some_attributes c else Ok ([], c))
  unfolding attributes_from attributes_at
  attributes_are c =
      ap (λ r. if starts_name (next_kind c.tokens) then r else Ok ([], c)) (bind_same (attribute_from s c) (with_others (attributes_at (length c.tokens) s)) (with_others (attributes_from s)) (λ a e. others_same (attributes_at (length c.tokens) s) (attributes_from s) a (attributes_same (length c.tokens) (suc (length a.1.tokens)) a.1 (attribute_less c a e) (omega arith))))

  -- what stands behind attributes in parentheses, in two ways
  abbrev returned : Attributes → Read T.ProcedureOption
  returned r = r >>= λ others. taken (K.Symbol S.CloseParenthesis) others.1 >>= λ u. returning others.0 u.1

  abbrev given : Attributes → Read T.ProcedureOption
  given r = r >>= λ others. taken (K.Symbol S.CloseParenthesis) others.1 >>= λ u. Ok (T.Returns others.0, u.1)

  some_returned : (r : Read T.Attribute) (rest : Cursor → Attributes) → returned (r >>= with_others rest) ≡ given (r >>= with_others rest)
  some_returned (Ok a) rest = behind_one (rest a.1)
    where
      behind_one : (r : Attributes) → returned (r >>= λ others. Ok (a.0 ∷ others.0, others.1)) ≡ given (r >>= λ others. Ok (a.0 ∷ others.0, others.1))
      behind_one (Ok others) = refl
      behind_one (Err e) = refl
  some_returned (Err e) rest = refl

  abbrev stuck : Read Token → Read T.ProcedureOption
  stuck r = r >>= λ u. Err Stuck

  none_returned : (r : Read Token) → (r >>= λ u. returning [] u.1) ≡ stuck r
  none_returned (Ok u) = refl
  none_returned (Err e) = refl

  no_attribute : (t : Token) (ts : List Token) (m : Marks) → starts_name (Some t.kind) ≡ false → attribute_from s (at (t ∷ ts) m) ≡ Err Stuck
  unfolding attribute_from
  no_attribute t ts m e = by_kind t.kind e
    where
      by_kind : (k : Kind) → starts_name (Some k) ≡ false → attribute_of_kind s (t ∷ ts) k (at ts m) ≡ Err Stuck
      by_kind (K.Name word) e = absurd (cc e)
      by_kind _ e = refl

  stuck_behind : (t : Token) (ts : List Token) (m : Marks) → stuck (taken (K.Symbol S.CloseParenthesis) (at (t ∷ ts) m)) ≡ Err Stuck
  unfolding taken
  stuck_behind t ts m = by_kind (is_terminal (K.Symbol S.CloseParenthesis) t.kind)
    where
      by_kind : (b : Bool) → stuck (if b then Ok (t, at ts m) else Err Stuck) ≡ Err Stuck
      by_kind true = refl
      by_kind false = refl

  returned_is : (ts : List Token) (m : Marks) → returned (attributes_from s (at ts m)) ≡ given (some_attributes (at ts m))
  unfolding attribute_from
  returned_is [] m =
      ap returned (attributes_are (at [] m)) ∙ ap (λ r. r >>= λ u. returning [] u.1) (taken_none (K.Symbol S.CloseParenthesis) m)
  returned_is (t ∷ ts) m = by_name (starts_name (Some t.kind)) refl
    where
      by_name : (b : Bool) → starts_name (Some t.kind) ≡ b → returned (attributes_from s (at (t ∷ ts) m)) ≡ given (some_attributes (at (t ∷ ts) m))
      by_name true e =
          ap returned (attributes_are (at (t ∷ ts) m)) ∙ ap (λ b. returned (if b then some_attributes (at (t ∷ ts) m) else Ok ([], at (t ∷ ts) m))) e ∙ some_returned (attribute_from s (at (t ∷ ts) m)) (attributes_from s)
      by_name false e =
          ap returned (attributes_are (at (t ∷ ts) m)) ∙ ap (λ b. returned (if b then some_attributes (at (t ∷ ts) m) else Ok ([], at (t ∷ ts) m))) e ∙ none_returned (taken (K.Symbol S.CloseParenthesis) (at (t ∷ ts) m)) ∙ stuck_behind t ts m ∙ ap (λ r. given (r >>= with_others (attributes_from s))) (sym (no_attribute t ts m e))

  abbrev some_returns : Cursor → Read T.ProcedureOption
  some_returns c = taken (K.Symbol S.OpenParenthesis) c >>= λ t. given (some_attributes t.1)

  returns_are : (c : Cursor) → returns_from s c ≡ some_returns c
  unfolding returns_from
  returns_are c =
      bind_same (taken (K.Symbol S.OpenParenthesis) c) (λ t. returned (attributes_from s t.1)) (λ t. given (some_attributes t.1)) (λ t e. returned_is t.1.tokens t.1.marks)

  prefix_attributes : Prefixes P Fb some_attributes
  prefix_attributes =
      prefix_bind (attribute_from s) (with_others (attributes_from s)) attribute (λ a. prefix_bind (attributes_from s) (λ others. Ok (a ∷ others.0, others.1)) attributes (λ others. prefix_ok (a ∷ others)) (λ w h. h)) behind

  prefix_some_returns : Prefixes (Next (K.Symbol S.OpenParenthesis)) Any some_returns
  prefix_some_returns =
      prefix_bind (taken (K.Symbol S.OpenParenthesis)) (λ t. given (some_attributes t.1)) (prefix_symbol S.OpenParenthesis) (λ t. prefix_bind some_attributes (λ others. taken (K.Symbol S.CloseParenthesis) others.1 >>= λ u. Ok (T.Returns others.0, u.1)) prefix_attributes (λ others. prefix_bind (taken (K.Symbol S.CloseParenthesis)) (λ u. Ok (T.Returns others, u.1)) (prefix_symbol S.CloseParenthesis) (λ u. prefix_ok (T.Returns others)) (λ w h. tt)) close) (λ w h. tt)

  prefix_returns : Prefixes (Next (K.Symbol S.OpenParenthesis)) Any (returns_from s)
  prefix_returns =
      at_all (λ c. at_as some_returns (returns_from s) c (returns_are c) (λ more. returns_are (longer c more)) (at_one prefix_some_returns c))

  -- ---- options

  prefix_main : Prefixes (Next (K.Symbol S.OpenParenthesis)) Any (λ c. main_from c)
  prefix_main =
      prefix_bind (enclosed_from (taken (K.Name W.Main))) (λ x. Ok (T.Main, x.1)) (prefix_enclosed (taken (K.Name W.Main)) (prefix_taken (K.Name W.Main) refl) (λ w h. tt)) (λ x. prefix_ok T.Main) (λ w h. tt)

  option_steady : (word : Word) → Steady Any (λ c. option_behind s word c)
  option_steady W.Options = steady prefix_main
  option_steady W.Recursive = steady (prefix_ok T.Recursive)
  option_steady W.Returns = steady prefix_returns
  option_steady _ = steady_err (λ c. Stuck) (λ c more. refl) (λ c o. o)

  prefix_option : Prefixes (Next (K.Name W.Recursive)) Any (option_from s)
  unfolding option_from
  prefix_option =
      firm_bind word_from (K.Name W.Recursive) (made (K.Name W.Recursive), W.Recursive) (λ w. option_behind s w.0.1 w.1) (firm_word_as W.Recursive) (λ x. option_steady x.1) (λ c e. e)

  -- ---- all options

  abbrev Options : Type 0
  Options = Read (List T.ProcedureOption)

  abbrev with_further : (Cursor → Options) → T.ProcedureOption × Cursor → Options
  with_further rest o = rest o.1 >>= λ others. Ok (o.0 ∷ others.0, others.1)

  further_same : (rest rest' : Cursor → Options) (o : T.ProcedureOption × Cursor) → rest o.1 ≡ rest' o.1 → with_further rest o ≡ with_further rest' o
  further_same rest rest' o e = ap (λ r. r >>= λ others. Ok (o.0 ∷ others.0, others.1)) e

  option_less : (c : Cursor) (o : T.ProcedureOption × Cursor) → option_from s c ≡ Ok o → length o.1.tokens < length c.tokens
  option_less c o e = (post_is (option_post s c) e).shorter

  options_same : (n n' : ℕ) (c : Cursor) → length c.tokens < n → length c.tokens < n' → options_at n s c ≡ options_at n' s c
  unfolding options_at
  options_same zero n' c l l' = absurd (omega (arith, l))
  options_same (suc n) zero c l l' = absurd (omega (arith, l'))
  options_same (suc n) (suc n') c l l' =
      ap (λ r. if starts (K.Symbol S.Semicolon) c.tokens then Ok ([], c) else r) (bind_same (option_from s c) (with_further (options_at n s)) (with_further (options_at n' s)) (λ o e. further_same (options_at n s) (options_at n' s) o (options_same n n' o.1 (omega (arith, l, option_less c o e)) (omega (arith, l', option_less c o e)))))

  abbrev some_options : Cursor → Options
  some_options c = option_from s c >>= λ o. with_further (options_from s) o

  options_are : (c : Cursor) → options_from s c ≡ (if starts (K.Symbol S.Semicolon) c.tokens then Ok ([], c) else some_options c)
  unfolding options_from options_at
  options_are c =
      ap (λ r. if starts (K.Symbol S.Semicolon) c.tokens then Ok ([], c) else r) (bind_same (option_from s c) (with_further (options_at (length c.tokens) s)) (with_further (options_from s)) (λ o e. further_same (options_at (length c.tokens) s) (options_from s) o (options_same (length c.tokens) (suc (length o.1.tokens)) o.1 (option_less c o e) (omega arith))))

  abbrev Stops : List Token → Type 0
  Stops w = Next (K.Symbol S.Semicolon) w

  semicolon_starts : (w : List Token) → Stops w → starts (K.Symbol S.Semicolon) w ≡ true
  semicolon_starts [] n = absurd (cc n)
  semicolon_starts (t ∷ ts) n =
      let same : t.kind ≡ K.Symbol S.Semicolon = cc n in
      ap (is_terminal (K.Symbol S.Semicolon)) same

  option_none : (m : Marks) → option_from s (at [] m) ≡ Err Ended
  unfolding option_from word_from
  option_none m = refl

  options_none : (i : ⊤) (m : Marks) → At anything Stops Stops (options_from s) (at [] m)
  options_none i m =
      let e : options_from s (at [] m) ≡ Err Ended = options_are (at [] m) ∙ ap (λ r. r >>= λ o. with_further (options_from s) o) (option_none m) in
      at_end (options_from s) m (subst Open (sym e) tt) (record {
        closing = record {
          more = [];
          given = [];
          marks = m;
          reads = λ w h. options_are (at w m) ∙ ap (λ b. if b then Ok ([], at w m) else some_options (at w m)) (semicolon_starts w h);
          leads = λ n w h. h;
        };
        passes = refl;
      })

  some_at : (t : Token) (ts : List Token) (m : Marks) → ((j : ⊤) (c : Cursor) → length c.tokens ≤ length ts → At anything Stops Stops (options_from s) c) → At anything Stops Stops some_options (at (t ∷ ts) m)
  some_at t ts m others =
      at_some some_options t ts m (at_bind (option_from s) (with_further (options_from s)) (at (t ∷ ts) m) (at_one prefix_option (at (t ∷ ts) m)) (λ o e. at_map (options_from s) (λ xs. o.0 ∷ xs) o.1 (others tt o.1 (omega (arith, option_less (at (t ∷ ts) m) o e)))) (λ o m. at_map (options_from s) (λ xs. o ∷ xs) (at [] m) (options_none tt m)) (λ w h. tt))

  options_step : (i : ⊤) (t : Token) (ts : List Token) (m : Marks) → ((j : ⊤) (c : Cursor) → length c.tokens ≤ length ts → At anything Stops Stops (options_from s) c) → At anything Stops Stops (options_from s) (at (t ∷ ts) m)
  options_step i t ts m others =
      at_as (λ c. if starts (K.Symbol S.Semicolon) c.tokens then Ok ([], c) else some_options c) (options_from s) (at (t ∷ ts) m) (options_are (at (t ∷ ts) m)) (λ more. options_are (at (t ∷ (ts ++ more)) m)) (at_test (λ c. starts (K.Symbol S.Semicolon) c.tokens) (λ c. Ok ([], c)) some_options (at (t ∷ ts) m) (λ more. refl) (λ e. at_done [] t ts m) (λ e. some_at t ts m others))

  -- a semicolon has to stand behind
  pub prefix_options : Prefixes Stops Stops (options_from s)
  prefix_options = at_all (λ c. loop_at (λ i. options_from s) options_none options_step tt c)

-- all options of a procedure, with the attributes of what it returns
pub prefix_procedure_options : (s : List ℕ) → Prefixes (Next (K.Symbol S.Semicolon)) (Next (K.Symbol S.Semicolon)) (options_from s)
prefix_procedure_options s =
    prefix_options s (prefix_attribute s) (prefix_attributes_as s attributes_end) (λ w h. (attributes_end w h).0) (λ w h. next_allows stops_attributes (K.Symbol S.CloseParenthesis) w refl h)
