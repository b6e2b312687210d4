-- Heads: what is read is spelled so and marked so, and what is left out is where it is said to be.
use Rattle.std.proofs.Common.{◌≡◌, ℕ, ◌<◌, List, length, Some, None, refl, sym, ap, ◌∙◌, subst, arith}
use Rattle.std.specs.Prelude.{if◌then◌else◌}
use Rattle.pli_language.specs.declared.token.Word.{Word}
use Rattle.pli_language.specs.declared.token.Word.TheVariants as W
use Rattle.pli_language.specs.declared.token.Symbol.TheVariants as S
use Rattle.pli_language.specs.declared.token.Kind.TheVariants as K
use Rattle.pli_language.specs.declared.token.Token.{Token}
use Rattle.pli_language.specs.Attributes.{LeavesOutItems, declare_items_marks}
use Rattle.pli_language.specs.Marks.{Marks, expr_marks}
use Rattle.pli_language.specs.Spells.{Takes, place_of}
use Rattle.pli_language.specs.Heads as G
use Rattle.pli_language.specs.Heads.{Assigns, Opens, SpellsSimple, SpellsCounting, LeavesOutOptions, SpellsHead, parameters_marks, options_marks}
use Rattle.pli_language.specs.Tree as T
use Rattle.pli_phrase.specs.Cursor.{Cursor, Read, onto}
use Rattle.pli_phrase.specs.Tokens.{begins}
use Rattle.pli_phrase.specs.declared.expression.Beginning.{Beginning}
use Rattle.pli_phrase.specs.declared.expression.Beginning.TheVariants.{Begins, Differs, Unknown}
use Rattle.pli_attributes.proofs.Posts.{Post, never, post_ok, post_ended, post_bind, post_if, post_weaken}
use Rattle.pli_attributes.proofs.Tokens.{TakenBy, taken_post, name_post}
use Rattle.pli_attributes.proofs.Lists.{Reads}
use Rattle.pli_attributes.proofs.Expressions.{expr_post}
use Rattle.pli_attributes.proofs.Items.{LeavesItems, declare_items_post}
use Rattle.pli_clause.proofs.Parts.{WordBy, ReadsMarked, word_post}
use Rattle.pli_clause.proofs.References.{in_parentheses_post}
use Rattle.pli_clause.proofs.Conditions.{condition_post}
use Rattle.pli_clause.proofs.ParameterLaws.{parameters_post}
use Rattle.pli_clause.proofs.OptionLaws.{LeavesOptions, options_post}
use Rattle.pli_clause.proofs.Countings.{counting_post}
use Rattle.pli_phrase.specs.Reading.{assignment_begins}
use Rattle.pli_head.specs.Reading.{assigns, closed, assignment_from, procedure_from, declaring_from, if_from, do_worded, do_while_from, do_count_from, do_from, on_from, end_from, simple_from, head_behind, null_from, worded, head_from}
use Rattle.pli_head.proofs.Beginnings.{assigns_sound, assigns_not}
use Rattle.pli_head.proofs.Statements.{LeavesHead, assignment_post, simple_post}

-- what was read is a head, with its marks, and its first token was taken
pub record HeadRead (s : List ℕ) (c : Cursor) (x : G.Head × Cursor) : Type 0 where
  pub spelled : SpellsHead s c.tokens c.marks x.0 x.1.tokens x.1.marks
  pub shorter : length x.1.tokens < length c.tokens

made : (s : List ℕ) (c : Cursor) (h : G.Head) (e : Cursor) (m : Marks) → SpellsHead s c.tokens c.marks h e.tokens m → e.marks ≡ m → length e.tokens < length c.tokens → HeadRead s c (h, e)
made s c h e m g k l = record { spelled = subst (λ u. SpellsHead s c.tokens c.marks h e.tokens u) (sym k) g; shorter = l }

closed_post : {P : G.Head × Cursor → Type 0} {L : Cursor → Type 0} (h : G.Head) (c : Cursor) → ((u : Token × Cursor) → TakenBy (K.Symbol S.Semicolon) c u → P (h, u.1)) → Post P L (closed h c)
closed_post h c good = post_bind _ _ (never _ _ (taken_post (K.Symbol S.Semicolon) c)) (λ u k. post_ok (good u k))

simple_head_post : {L : Cursor → Type 0} (s : List ℕ) (c : Cursor) (r : Read T.Stmt) → Post (ReadsMarked (SpellsSimple s) c) L r → Post (HeadRead s c) L (simple_from r)
simple_head_post s c r h =
    post_bind _ _ h (λ x g. closed_post (G.Simple x.0) x.1 (λ u k. made s c (G.Simple x.0) u.1 x.1.marks (G.simple c.tokens x.1.tokens u.1.tokens c.marks x.1.marks u.0 x.0 g.spelled k.take) k.marked (omega (arith, g.shorter, k.shorter))))

-- behind a word that opens a head
module _ (s : List ℕ) (c d : Cursor) (t : Token) (m : d.marks ≡ c.marks) (l : length d.tokens < length c.tokens) (no : ¬ Assigns s c.tokens) where
  opened : (w : Word) → Takes c.tokens (K.Name w) t d.tokens → Opens s c.tokens w t d.tokens
  opened w a = record { taken = a; no_assignment = no }

  leaves_options : (ns : List T.Name × Cursor) (e : Cursor) → Takes c.tokens (K.Name W.Procedure) t d.tokens → Reads (G.SpellsParameters s) (parameters_marks 0) d ns → LeavesOptions s ns.1 e → LeavesHead s c e
  leaves_options ns e a g h = record { leaves = G.procedure c.tokens d.tokens ns.1.tokens e.tokens c.marks e.marks t ns.0 (opened W.Procedure a) g.spelled (subst (λ n. LeavesOutOptions s ns.1.tokens n e.tokens e.marks) (g.marked ∙ ap (parameters_marks 0 ns.0) m) h.leaves) }

  procedure_post : Takes c.tokens (K.Name W.Procedure) t d.tokens → Post (HeadRead s c) (LeavesHead s c) (procedure_from s (place_of t) d)
  unfolding procedure_from
  procedure_post a =
      post_bind _ _ (never _ _ (parameters_post s d)) (λ ns g. post_bind _ _ (post_weaken _ (options_post s ns.1) (λ x h. h) (λ e h. leaves_options ns e a g h)) (λ x h. closed_post (G.ProcedureFront (place_of t) ns.0 x.0) x.1 (λ u k. made s c (G.ProcedureFront (place_of t) ns.0 x.0) u.1 (options_marks x.0 (parameters_marks 0 ns.0 c.marks)) (G.procedure c.tokens d.tokens ns.1.tokens x.1.tokens u.1.tokens c.marks t u.0 ns.0 x.0 (opened W.Procedure a) g.spelled h.spelled k.take) (k.marked ∙ h.marked ∙ ap (options_marks x.0) (g.marked ∙ ap (parameters_marks 0 ns.0) m)) (omega (arith, l, g.shorter, h.shorter, k.shorter)))))

  leaves_items : (e : Cursor) → Takes c.tokens (K.Name W.Declare) t d.tokens → LeavesItems s d e → LeavesHead s c e
  leaves_items e a h = record { leaves = G.declare c.tokens d.tokens e.tokens c.marks e.marks t (opened W.Declare a) (subst (λ n. LeavesOutItems s d.tokens n e.tokens e.marks) m h.leaves) }

  declaring_post : Takes c.tokens (K.Name W.Declare) t d.tokens → Post (HeadRead s c) (LeavesHead s c) (declaring_from s (place_of t) d)
  declaring_post a =
      post_bind _ _ (post_weaken _ (declare_items_post s d) (λ x h. h) (λ e h. leaves_items e a h)) (λ x g. closed_post (G.Declaring x.0 (place_of t)) x.1 (λ u k. made s c (G.Declaring x.0 (place_of t)) u.1 (declare_items_marks x.0 c.marks) (G.declare c.tokens d.tokens x.1.tokens u.1.tokens c.marks t u.0 x.0 (opened W.Declare a) g.spelled k.take) (k.marked ∙ g.marked ∙ ap (declare_items_marks x.0) m) (omega (arith, l, g.shorter, k.shorter))))

  if_post : Takes c.tokens (K.Name W.If) t d.tokens → Post (HeadRead s c) (LeavesHead s c) (if_from s (place_of t) d)
  if_post a =
      post_bind _ _ (never _ _ (expr_post s d)) (λ e g. post_bind _ _ (never _ _ (taken_post (K.Name W.Then) e.1)) (λ u k. post_ok (made s c (G.IfThen e.0 (place_of t)) u.1 (expr_marks e.0 c.marks) (G.if_then c.tokens d.tokens e.1.tokens u.1.tokens c.marks t u.0 e.0 (opened W.If a) g.spelled k.take) (k.marked ∙ g.marked ∙ ap (expr_marks e.0) m) (omega (arith, l, g.shorter, k.shorter)))))

  do_while_post : Takes c.tokens (K.Name W.Do) t d.tokens → Post (HeadRead s c) (LeavesHead s c) (do_while_from s (place_of t) d)
  do_while_post a =
      post_bind _ _ (never _ _ (taken_post (K.Name W.While) d)) (λ w i. post_bind _ _ (never _ _ (in_parentheses_post s w.1)) (λ e g. closed_post (G.DoWhileGroup e.0 (place_of t)) e.1 (λ u k. made s c (G.DoWhileGroup e.0 (place_of t)) u.1 (expr_marks e.0 c.marks) (G.do_while c.tokens d.tokens w.1.tokens e.1.tokens u.1.tokens c.marks t w.0 u.0 e.0 (opened W.Do a) i.take g.spelled k.take) (k.marked ∙ g.marked ∙ ap (expr_marks e.0) (i.marked ∙ m)) (omega (arith, l, i.shorter, g.shorter, k.shorter)))))

  do_count_post : Takes c.tokens (K.Name W.Do) t d.tokens → Post (HeadRead s c) (LeavesHead s c) (do_count_from s (place_of t) d)
  do_count_post a =
      post_bind _ _ (never _ _ (counting_post s d)) (λ x g. closed_post (G.DoCountGroup x.0 (place_of t)) x.1 (λ u k. made s c (G.DoCountGroup x.0 (place_of t)) u.1 x.1.marks (G.do_count c.tokens d.tokens x.1.tokens u.1.tokens c.marks x.1.marks t u.0 x.0 (opened W.Do a) (subst (λ n. SpellsCounting s d.tokens n x.0 x.1.tokens x.1.marks) m g.spelled) k.take) k.marked (omega (arith, l, g.shorter, k.shorter))))

  do_worded_post : Takes c.tokens (K.Name W.Do) t d.tokens → (b : Beginning) → Post (HeadRead s c) (LeavesHead s c) (do_worded s (place_of t) b d)
  do_worded_post a Begins = do_count_post a
  do_worded_post a Differs = do_while_post a
  do_worded_post a Unknown = post_ended

  do_post : Takes c.tokens (K.Name W.Do) t d.tokens → Post (HeadRead s c) (LeavesHead s c) (do_from s (place_of t) d)
  unfolding do_from
  do_post a =
      post_if (begins (K.Symbol S.Semicolon) d) (closed (G.DoGroup (place_of t)) d) (if begins (K.Name W.While) d then do_worded s (place_of t) (assignment_begins s d) d else do_count_from s (place_of t) d)
      (λ b. closed_post (G.DoGroup (place_of t)) d (λ u k. made s c (G.DoGroup (place_of t)) u.1 c.marks (G.do_group c.tokens d.tokens u.1.tokens c.marks t u.0 (opened W.Do a) k.take) (k.marked ∙ m) (omega (arith, l, k.shorter))))
      (λ b. post_if (begins (K.Name W.While) d) (do_worded s (place_of t) (assignment_begins s d) d) (do_count_from s (place_of t) d) (λ e. do_worded_post a (assignment_begins s d)) (λ e. do_count_post a))

  on_post : Takes c.tokens (K.Name W.On) t d.tokens → Post (HeadRead s c) (LeavesHead s c) (on_from (place_of t) d)
  on_post a =
      post_bind _ _ (never _ _ (condition_post d)) (λ x g. post_ok (made s c (G.On x.0 (place_of t)) x.1 c.marks (G.on c.tokens d.tokens x.1.tokens c.marks t x.0 (opened W.On a) g.spelled) (g.marked ∙ m) (omega (arith, l, g.shorter))))

  end_post : Takes c.tokens (K.Name W.End) t d.tokens → Post (HeadRead s c) (LeavesHead s c) (end_from s (place_of t) d)
  unfolding end_from
  end_post a =
      post_if _ _ _
      (λ b. closed_post (G.EndOf None (place_of t)) d (λ u k. made s c (G.EndOf None (place_of t)) u.1 c.marks (G.unnamed_end c.tokens d.tokens u.1.tokens c.marks t u.0 (opened W.End a) k.take) (k.marked ∙ m) (omega (arith, l, k.shorter))))
      (λ b. post_bind _ _ (never _ _ (name_post s d)) (λ n i. closed_post (G.EndOf (Some n.0) (place_of t)) n.1 (λ u k. made s c (G.EndOf (Some n.0) (place_of t)) u.1 c.marks (subst (λ v. SpellsHead s c.tokens c.marks (G.EndOf (Some v) (place_of t)) u.1.tokens c.marks) (sym i.is) (G.named_end c.tokens d.tokens n.1.tokens u.1.tokens c.marks t i.token u.0 i.word (opened W.End a) i.take k.take)) (k.marked ∙ i.marked ∙ m) (omega (arith, l, i.shorter, k.shorter)))))

  behind_post : (word : Word) → Takes c.tokens (K.Name word) t d.tokens → Post (HeadRead s c) (LeavesHead s c) (head_behind s c.tokens (place_of t) word d)
  unfolding head_behind
  behind_post W.Procedure a = procedure_post a
  behind_post W.Declare a = declaring_post a
  behind_post W.If a = if_post a
  behind_post W.Else a =
      post_ok (made s c (G.Else (place_of t)) d c.marks (G.else' c.tokens d.tokens c.marks t (opened W.Else a)) m l)
  behind_post W.Do a = do_post a
  behind_post W.Begin a =
      closed_post (G.BeginBlock (place_of t)) d (λ u k. made s c (G.BeginBlock (place_of t)) u.1 c.marks (G.begin c.tokens d.tokens u.1.tokens c.marks t u.0 (opened W.Begin a) k.take) (k.marked ∙ m) (omega (arith, l, k.shorter)))
  behind_post W.On a = on_post a
  behind_post W.System a =
      closed_post (G.System (place_of t)) d (λ u k. made s c (G.System (place_of t)) u.1 c.marks (G.system c.tokens d.tokens u.1.tokens c.marks t u.0 (opened W.System a) k.take) (k.marked ∙ m) (omega (arith, l, k.shorter)))
  behind_post W.End a = end_post a
  behind_post word a = simple_head_post s c _ (simple_post s c d t m l no word a)

module _ (s : List ℕ) (c : Cursor) where
  null_post : Post (HeadRead s c) (LeavesHead s c) (null_from c)
  null_post =
      post_bind _ _ (never _ _ (taken_post (K.Symbol S.Semicolon) c)) (λ u k. post_ok (made s c (G.Simple (T.Null (place_of u.0))) u.1 c.marks (G.simple c.tokens c.tokens u.1.tokens c.marks c.marks u.0 (T.Null (place_of u.0)) (G.null c.tokens u.1.tokens c.marks u.0 k.take.is k.take.of_kind) k.take) k.marked k.shorter))

  assigned_post : (w : (Token × Word) × Cursor) → WordBy c w → Assigns s c.tokens → Post (HeadRead s c) (LeavesHead s c) (simple_from (assignment_from s (place_of w.0.0) (onto c.tokens w.1)))
  assigned_post w k a =
      let e : onto c.tokens w.1 ≡ c = ap (λ n. record { tokens = c.tokens; marks = n }) k.marked in
      subst (λ u. Post (HeadRead s c) (LeavesHead s c) (simple_from (assignment_from s (place_of w.0.0) u))) (sym e) (simple_head_post s c _ (never (LeavesHead s c) _ (assignment_post s c w.0.0 w.1.tokens k.take.is a.no_if)))

  worded_post : (b : Beginning) (w : (Token × Word) × Cursor) → assigns s c ≡ b → WordBy c w → Post (HeadRead s c) (LeavesHead s c) (worded s b c.tokens w)
  worded_post Begins w h k = assigned_post w k (assigns_sound s c h)
  worded_post Differs w h k = behind_post s c w.1 w.0.0 k.marked k.shorter (assigns_not s c Differs h (λ e. cc e)) w.0.1 k.take
  worded_post Unknown w h k = behind_post s c w.1 w.0.0 k.marked k.shorter (assigns_not s c Unknown h (λ e. cc e)) w.0.1 k.take

  pub head_post : Post (HeadRead s c) (LeavesHead s c) (head_from s c)
  unfolding head_from
  head_post =
      post_if _ _ _ (λ b. null_post) (λ b. post_bind _ _ (never _ _ (word_post c)) (λ w k. worded_post (assigns s c) w refl k))
