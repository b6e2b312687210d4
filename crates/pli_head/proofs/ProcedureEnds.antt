-- A procedure's head that the tokens end in, where they end in what may be a reference as well.
use Rattle.std.proofs.Common.{◌≡◌, ◌≢◌, ◌⊎◌, inl, inr, ℕ, List, [], ◌∷◌, ◌++◌, length, Option, Some, None, Bool, true, false, Ok, Err, refl, sym, ap, ◌∙◌, subst}
use Rattle.std.specs.Prelude.{⊤, IsTrue, not, if◌then◌else◌, ◌&&◌}
use Rattle.std.specs.List.{list_all}
use Rattle.pli_language.specs.declared.expr.Place.{Place}
use Rattle.pli_language.specs.declared.token.Word.{Word}
use Rattle.pli_language.specs.declared.token.Word.TheVariants as W
use Rattle.pli_language.specs.declared.token.Symbol.{Symbol}
use Rattle.pli_language.specs.declared.token.Symbol.TheVariants as S
use Rattle.pli_language.specs.declared.token.Kind.{Kind}
use Rattle.pli_language.specs.declared.token.Kind.TheVariants as K
use Rattle.pli_language.specs.declared.token.Token.{Token}
use Rattle.pli_language.specs.Heads as G
use Rattle.pli_language.specs.Heads.{Head, ProcedureFront, SpellsNames, SpellsParameters}
use Rattle.pli_language.specs.Marks.{Marks}
use Rattle.pli_language.specs.Spells as E
use Rattle.pli_language.specs.Spells.{Takes, next_kind, name_at, place_of, infix_op, Level, SpellsAt, SpellsExpr, SpellsExprs, SpellsArguments, SpellsReference}
use Rattle.pli_language.specs.Tree as T
use Rattle.pli_phrase.specs.Cursor.{Cursor, Stuck, Ended, LeavesOut, Read, ◌>>=◌, onto}
use Rattle.pli_phrase.specs.Tokens.{is_terminal, taken_at, taken}
use Rattle.pli_phrase.specs.declared.expression.Beginning.{Beginning}
use Rattle.pli_phrase.specs.declared.expression.Beginning.TheVariants.{Begins, Differs, Unknown}
use Rattle.pli_phrase.specs.Reading.{reference_from, begun_by, begun, assignment_begins}
use Rattle.pli_phrase.proofs.Prefixes.{longer, Open, made}
use Rattle.pli_phrase.proofs.OpenRests.{open_reference_rest}
use Rattle.pli_phrase.proofs.PhrasePrefixes.{is_plain, unknown_opens}
use Rattle.pli_attributes.proofs.Posts.{post_is}
use Rattle.pli_clause.specs.Parts.{word_of_kind, word_from}
use Rattle.pli_clause.specs.Reading.{parameters_from, option_behind, option_from, options_at, options_from}
use Rattle.pli_clause.proofs.References.{reference_complete}
use Rattle.pli_clause.proofs.ParameterLaws.{parameters_post}
use Rattle.pli_clause.proofs.ClausePrefixes.{prefix_parameters, parameters_more}
use Rattle.pli_head.specs.Reading.{assigns, closed, procedure_from, head_behind, head_from}
use Rattle.pli_head.proofs.Continuing.{assigns_else, not_if, at, wording, head_worded}
use Rattle.pli_head.proofs.Completing.{Plain, plain_no_equal, begun_equal, CompletedWord, semicolon, closed_whole}

-- ---- names as arguments

-- a name behind which a comma or a closing parenthesis stands is an expression
stops_for : (level : Level) (k : Option Kind) → ((k ≡ Some (K.Symbol S.Comma)) ⊎ (k ≡ Some (K.Symbol S.CloseParenthesis))) → infix_op level k ≡ None
stops_for E.Multiplying k (inl e) = ap (infix_op E.Multiplying) e
stops_for E.Multiplying k (inr e) = ap (infix_op E.Multiplying) e
stops_for E.Adding k (inl e) = ap (infix_op E.Adding) e
stops_for E.Adding k (inr e) = ap (infix_op E.Adding) e
stops_for E.Joining k (inl e) = ap (infix_op E.Joining) e
stops_for E.Joining k (inr e) = ap (infix_op E.Joining) e
stops_for E.Comparing k (inl e) = ap (infix_op E.Comparing) e
stops_for E.Comparing k (inr e) = ap (infix_op E.Comparing) e
stops_for E.Conjoining k (inl e) = ap (infix_op E.Conjoining) e
stops_for E.Conjoining k (inr e) = ap (infix_op E.Conjoining) e
stops_for E.Disjoining k (inl e) = ap (infix_op E.Disjoining) e
stops_for E.Disjoining k (inr e) = ap (infix_op E.Disjoining) e

differs_from : (k : Option Kind) (y : Symbol) → ((k ≡ Some (K.Symbol S.Comma)) ⊎ (k ≡ Some (K.Symbol S.CloseParenthesis))) → (S.Comma ≡ y → ⊥) → (S.CloseParenthesis ≡ y → ⊥) → k ≢ Some (K.Symbol y)
differs_from k y (inl e) n h i = let j : Some (K.Symbol S.Comma) ≡ Some (K.Symbol y) = sym e ∙ i in n (cc j)
differs_from k y (inr e) n h i = let j : Some (K.Symbol S.CloseParenthesis) ≡ Some (K.Symbol y) = sym e ∙ i in h (cc j)

module _ (s : List ℕ) where
  abbrev named : Token → Word → T.Expr
  named t word = T.Refers (T.Plain (T.Last (name_at s t word) T.Absent))

  name_spelled : (ts rest : List Token) (t : Token) (word : Word) → Takes ts (K.Name word) t rest → ((next_kind rest ≡ Some (K.Symbol S.Comma)) ⊎ (next_kind rest ≡ Some (K.Symbol S.CloseParenthesis))) → SpellsExpr s ts (named t word) rest
  name_spelled ts rest t word take h =
      let q : T.Qualified = T.Last (name_at s t word) T.Absent in
      let no_open = differs_from (next_kind rest) S.OpenParenthesis h (λ e. cc e) (λ e. cc e) in
      let no_point = differs_from (next_kind rest) S.Point h (λ e. cc e) (λ e. cc e) in
      let no_arrow = differs_from (next_kind rest) S.Arrow h (λ e. cc e) (λ e. cc e) in
      let reference : SpellsReference s ts (T.Plain q) rest = E.basic ts rest rest q (T.Plain q) (E.last ts rest rest t word T.Absent take (E.absent rest no_open) no_point) (E.no_arrow (T.Plain q) rest no_arrow) in
      let e : T.Expr = named t word in
      let primary : SpellsAt s None ts e rest = E.primary ts rest e (E.reference ts rest (T.Plain q) reference) in
      let a : SpellsAt s (Some E.Multiplying) ts e rest = E.chain E.Multiplying ts rest rest e e primary (E.stops E.Multiplying e rest (stops_for E.Multiplying (next_kind rest) h)) in
      let b : SpellsAt s (Some E.Adding) ts e rest = E.chain E.Adding ts rest rest e e a (E.stops E.Adding e rest (stops_for E.Adding (next_kind rest) h)) in
      let c : SpellsAt s (Some E.Joining) ts e rest = E.chain E.Joining ts rest rest e e b (E.stops E.Joining e rest (stops_for E.Joining (next_kind rest) h)) in
      let d : SpellsAt s (Some E.Comparing) ts e rest = E.chain E.Comparing ts rest rest e e c (E.stops E.Comparing e rest (stops_for E.Comparing (next_kind rest) h)) in
      let f : SpellsAt s (Some E.Conjoining) ts e rest = E.chain E.Conjoining ts rest rest e e d (E.stops E.Conjoining e rest (stops_for E.Conjoining (next_kind rest) h)) in
      E.chain E.Disjoining ts rest rest e e f (E.stops E.Disjoining e rest (stops_for E.Disjoining (next_kind rest) h))

  -- names are expressions
  record AsExprs (ts rest : List Token) : Type 0 where
    exprs : T.Exprs
    spelled : SpellsExprs s ts exprs rest

  names_spelled : {ts rest : List Token} {ns : List T.Name} → SpellsNames s ts ns rest → next_kind rest ≡ Some (K.Symbol S.CloseParenthesis) → AsExprs ts rest
  names_spelled (G.one_name ts rest t word take no_comma) e =
      record { exprs = T.ExprThen (named t word) T.NoExpr; spelled = E.one ts rest (named t word) (name_spelled ts rest t word take (inr e)) no_comma }
  names_spelled (G.further_names ts mid after rest t u word ns take comma others) e =
      let h = names_spelled others e in
      let next : next_kind mid ≡ Some (K.Symbol S.Comma) = ap next_kind comma.is ∙ ap Some comma.of_kind in
      record { exprs = T.ExprThen (named t word) h.exprs; spelled = E.more ts mid after rest u (named t word) h.exprs (name_spelled ts mid t word take (inl next)) comma h.spelled }

  names_first : {ts rest : List Token} {ns : List T.Name} → SpellsNames s ts ns rest → next_kind ts ≢ Some (K.Symbol S.CloseParenthesis)
  names_first (G.one_name ts rest t word take no_comma) i = cc (ap next_kind take.is ∙ ap Some take.of_kind, i)
  names_first (G.further_names ts mid after rest t u word ns take comma others) i = cc (ap next_kind take.is ∙ ap Some take.of_kind, i)

  -- parameters behind a word are the arguments of a reference
  record AsReference (ts rest : List Token) : Type 0 where
    reference : T.Reference
    spelled : SpellsReference s ts reference rest

  referred_with : (t : Token) (w : Word) (mid rest : List Token) (a : T.Arguments) → t.kind ≡ K.Name w → SpellsArguments s mid a rest → next_kind rest ≢ Some (K.Symbol S.Point) → next_kind rest ≢ Some (K.Symbol S.Arrow) → AsReference (t ∷ mid) rest
  referred_with t w mid rest a is g no_point no_arrow =
      let q : T.Qualified = T.Last (name_at s t w) a in
      record { reference = T.Plain q; spelled = E.basic (t ∷ mid) rest rest q (T.Plain q) (E.last (t ∷ mid) mid rest t w a (record { is = refl; of_kind = is }) g no_point) (E.no_arrow (T.Plain q) rest no_arrow) }

  parameters_referred : (t : Token) (w : Word) {mid rest : List Token} {ns : List T.Name} → t.kind ≡ K.Name w → SpellsParameters s mid ns rest → next_kind rest ≢ Some (K.Symbol S.Point) → next_kind rest ≢ Some (K.Symbol S.Arrow) → AsReference (t ∷ mid) rest
  parameters_referred t w is (G.no_parameter ts no_open) no_point no_arrow =
      referred_with t w ts ts T.Absent is (E.absent ts no_open) no_point no_arrow
  parameters_referred t w is (G.parameters ts after mid rest o u ns opened names closed) no_point no_arrow =
      let h = names_spelled names (ap next_kind closed.is ∙ ap Some closed.of_kind) in
      referred_with t w ts rest (T.Listed h.exprs) is (E.listed ts after mid rest o u h.exprs opened (names_first names) h.spelled closed) no_point no_arrow

-- ---- options

-- what options begin with, where they are read or the tokens end in them
abbrev begins_options : Kind → Bool
begins_options (K.Name w) = true
begins_options (K.Symbol S.Semicolon) = true
begins_options _ = false

module _ (s : List ℕ) (v : Token) (vs : List Token) (m : Marks) where
  -- the options that a token of some kind begins
  abbrev options_by : Kind → Read (List T.ProcedureOption)
  options_by k =
      let c : Cursor = record { tokens = v ∷ vs; marks = m } in
      if is_terminal (K.Symbol S.Semicolon) k then Ok ([], c) else ((word_of_kind v k (onto vs c) >>= λ w. option_behind s w.0.1 w.1) >>= λ o. options_at (length (v ∷ vs)) s o.1 >>= λ others. Ok (o.0 ∷ others.0, others.1))

  first_of_options : (k : Kind) → Open (options_by k) → begins_options k ≡ true
  first_of_options (K.Name w) o = refl
  first_of_options (K.Symbol S.Semicolon) o = refl
  first_of_options (K.Number n) o = absurd o
  first_of_options K.Text o = absurd o
  first_of_options (K.Bit b) o = absurd o
  first_of_options (K.Symbol y) o = absurd o

  options_first : Open (options_from s (record { tokens = v ∷ vs; marks = m })) → begins_options v.kind ≡ true
  unfolding options_from options_at option_from word_from
  options_first o = first_of_options v.kind o

-- what options begin with ends a reference, and begins no assignment
options_differ : (k : Kind) → begins_options k ≡ true → begun_by (Some k) ≡ Differs
options_differ (K.Name w) e = refl
options_differ (K.Symbol S.Semicolon) e = refl
options_differ _ e = absurd (cc e)

options_no : (k : Kind) (y : Symbol) → (S.Semicolon ≡ y → ⊥) → begins_options k ≡ true → Some k ≢ Some (K.Symbol y)
options_no (K.Name w) y n e i = cc i
options_no (K.Symbol S.Semicolon) y n e i = n (cc i)
options_no _ y n e i = cc e

-- ---- the head of a procedure that the tokens end in

abbrev options_closed : Place → List T.Name → Read (List T.ProcedureOption) → Read Head
options_closed p ns q = q >>= λ options. closed (ProcedureFront p ns options.0) options.1

abbrev parameters_closed : List ℕ → Place → Read (List T.Name) → Read Head
parameters_closed s p q = q >>= λ ns. options_closed p ns.0 (options_from s ns.1)

-- what comes first ends where the whole does
ended_first : {X Y : Type 0} (r : Read X) (g : X × Cursor → Read Y) → (r >>= g) ≡ Err Ended → ((x : X × Cursor) → g x ≡ Err Ended → x.1.tokens ≡ []) → Open r
ended_first (Ok x) g e h = h x e
ended_first (Err Ended) g e h = tt
ended_first (Err Stuck) g e h = absurd (cc e)
ended_first (Err (LeavesOut d)) g e h = absurd (cc e)

-- up to its semicolon
abbrev head_closed : Head → Read Token → Read Head
head_closed h q = q >>= λ u. Ok (h, u.1)

ended_closed : (h : Head) (c : Cursor) → closed h c ≡ Err Ended → c.tokens ≡ []
unfolding taken
ended_closed h c e = at_tokens c.tokens e
  where
    by_kind : (t : Token) (ts : List Token) (d : Cursor) (b : Bool) → head_closed h (if b then Ok (t, d) else Err Stuck) ≡ Err Ended → t ∷ ts ≡ []
    by_kind t ts d true k = absurd (cc k)
    by_kind t ts d false k = absurd (cc k)

    at_tokens : (ts : List Token) → head_closed h (taken_at (K.Symbol S.Semicolon) ts c) ≡ Err Ended → ts ≡ []
    at_tokens [] k = refl
    at_tokens (t ∷ ts) k = by_kind t ts (onto ts c) (is_terminal (K.Symbol S.Semicolon) t.kind) k

no_options : (s : List ℕ) (m : Marks) → options_from s (record { tokens = semicolon; marks = m }) ≡ Ok ([], record { tokens = semicolon; marks = m })
unfolding options_from options_at
no_options s m = refl

plain_first : (b : Bool) (xs ys : List Token) → (Plain xs → Plain ys) → IsTrue (b && list_all is_plain xs) → IsTrue (b && list_all is_plain ys)
plain_first true xs ys h p = h p
plain_first false xs ys h p = absurd (cc p)

plain_semicolon : (xs : List Token) → Plain xs → Plain (xs ++ semicolon)
plain_semicolon [] p = refl
plain_semicolon (t ∷ xs) p = plain_first (is_plain t) xs (xs ++ semicolon) (plain_semicolon xs) p

module _ (s : List ℕ) (t : Token) (m : Marks) (is : t.kind ≡ K.Name W.Procedure) (mid : List Token) where
  abbrev here : Cursor
  here = at s t W.Procedure m is (t ∷ mid)

  abbrev inside : Cursor
  inside = at s t W.Procedure m is mid

  -- no assignment comes of it with plain tokens behind
  no_assignment : (more : List Token) → Plain more → assigns s here ≡ Unknown → assigns s (longer here more) ≢ Begins
  unfolding assignment_begins
  no_assignment more p e b =
      let i = not_if s here Unknown e (λ d. cc d) in
      let o = unknown_opens s here (sym (assigns_else s here i) ∙ e) in
      let j = not_if s (longer here more) Begins b (λ d. cc d) in
      by_reference o (reference_from s (longer here more)) refl (sym (assigns_else s (longer here more) j) ∙ b)
    where
      by_tokens : Open (reference_from s here) → (r : T.Reference × Cursor) → reference_from s (longer here more) ≡ Ok r → (ts : List Token) → r.1.tokens ≡ ts → begun_by (next_kind ts) ≡ Begins → ⊥
      by_tokens o r a [] j k = cc k
      by_tokens o r a (u ∷ us) j k =
          let h = open_reference_rest s here more r o a in
          plain_no_equal h.front r.1.tokens (subst Plain h.is p) (ap next_kind j ∙ ap Some (begun_equal u.kind k))

      by_reference : Open (reference_from s here) → (q : Read T.Reference) → reference_from s (longer here more) ≡ q → assignment_begins s (longer here more) ≡ Begins → ⊥
      by_reference o (Ok r) a k = by_tokens o r a r.1.tokens refl (sym (ap begun a) ∙ k)
      by_reference o (Err Stuck) a k = cc (ap begun a, k)
      by_reference o (Err Ended) a k = cc (ap begun a, k)
      by_reference o (Err (LeavesOut d)) a k = cc (ap begun a, k)

  -- where the tokens end in the parameters, or behind them
  complete_parameters : Open (parameters_from s inside) → assigns s here ≡ Unknown → CompletedWord s here
  unfolding procedure_from head_behind
  complete_parameters o e =
      let p : Place = place_of t in
      let k = (prefix_parameters s).closes inside o in
      let more = k.more ++ semicolon in
      let h : Head = ProcedureFront p k.given [] in
      let read : procedure_from s p (longer inside more) ≡ Ok (h, record { tokens = []; marks = k.marks }) =
      ap (parameters_closed s p) (k.reads semicolon refl) ∙ (ap (options_closed p k.given) (no_options s k.marks) ∙ closed_whole h k.marks) in
      record { more = more; head = h; rest = record { tokens = []; marks = k.marks }; reads = head_worded s t W.Procedure m is (mid ++ more) (no_assignment more (plain_semicolon k.more (parameters_more s inside o)) e) ∙ read; worded = no_assignment more (plain_semicolon k.more (parameters_more s inside o)) e }

  -- behind parameters no reference goes on
  no_reference : (ns : List T.Name × Cursor) (v : Token) (vs : List Token) → parameters_from s inside ≡ Ok ns → ns.1.tokens ≡ v ∷ vs → Open (options_from s ns.1) → assigns s here ≡ Unknown → ⊥
  unfolding assignment_begins
  no_reference ns v vs a j o e =
      let first = options_first s v vs ns.1.marks (subst (λ ts. Open (options_from s (record { tokens = ts; marks = ns.1.marks }))) j o) in
      let next : next_kind ns.1.tokens ≡ Some v.kind = ap next_kind j in
      let spelled = (post_is (parameters_post s inside) a).spelled in
      let no_point : next_kind ns.1.tokens ≢ Some (K.Symbol S.Point) = λ i. options_no v.kind S.Point (λ n. cc n) first (sym next ∙ i) in
      let no_arrow : next_kind ns.1.tokens ≢ Some (K.Symbol S.Arrow) = λ i. options_no v.kind S.Arrow (λ n. cc n) first (sym next ∙ i) in
      let r = parameters_referred s t W.Procedure is spelled no_point no_arrow in
      let read = reference_complete m r.spelled in
      let differs : assignment_begins s here ≡ Differs = ap begun read ∙ (ap begun_by next ∙ options_differ v.kind first) in
      let i = not_if s here Unknown e (λ d. cc d) in
      cc (sym (assigns_else s here i) ∙ e, differs)

  -- a procedure's head that the tokens end in, as what may be a reference
  pub procedure_completed : procedure_from s (place_of t) inside ≡ Err Ended → assigns s here ≡ Unknown → CompletedWord s here
  unfolding procedure_from
  procedure_completed ends e = by_parameters (parameters_from s inside) refl ends
    where
      by_tokens : (ns : List T.Name × Cursor) → parameters_from s inside ≡ Ok ns → Open (options_from s ns.1) → (ts : List Token) → ns.1.tokens ≡ ts → CompletedWord s here
      by_tokens ns a o [] j = complete_parameters (subst Open (sym a) j) e
      by_tokens ns a o (v ∷ vs) j = absurd (no_reference ns v vs a j o e)

      by_parameters : (r : Read (List T.Name)) → parameters_from s inside ≡ r → parameters_closed s (place_of t) r ≡ Err Ended → CompletedWord s here
      by_parameters (Ok ns) a i =
          let o = ended_first (options_from s ns.1) (λ options. closed (ProcedureFront (place_of t) ns.0 options.0) options.1) i (λ x. ended_closed (ProcedureFront (place_of t) ns.0 x.0) x.1) in
          by_tokens ns a o ns.1.tokens refl
      by_parameters (Err Ended) a i = complete_parameters (subst Open (sym a) tt) e
      by_parameters (Err Stuck) a i = absurd (cc i)
      by_parameters (Err (LeavesOut d)) a i = absurd (cc i)
