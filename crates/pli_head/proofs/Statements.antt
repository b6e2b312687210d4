-- Simple statements: what is read is spelled so and marked so, and what is left out is where it is said to be.
use Rattle.std.proofs.Common.{◌≡◌, ℕ, ◌<◌, ◌≤◌, List, ◌∷◌, length, refl, sym, ap, ◌∙◌, subst, arith, Err}
use Rattle.pli_language.specs.declared.token.Word.{Word}
use Rattle.pli_language.specs.declared.token.Word.TheVariants as W
use Rattle.pli_language.specs.declared.token.Symbol.TheVariants as S
use Rattle.pli_language.specs.declared.token.Kind.TheVariants as K
use Rattle.pli_language.specs.declared.token.Token.{Token}
use Rattle.pli_language.specs.Formats.{Direction, Getting, Putting, pairs_marks, skip_marks}
use Rattle.pli_language.specs.Marks.{Marks, expr_marks, reference_marks, arguments_marks}
use Rattle.pli_language.specs.Spells.{Takes, place_of}
use Rattle.pli_language.specs.Heads as G
use Rattle.pli_language.specs.Heads.{BeginsIf, Assigns, Opens, SpellsGoto, SpellsSimple, SpellsAllocations, stream_word, moving, marks_if, freeings_marks}
use Rattle.pli_language.specs.Tree as T
use Rattle.pli_phrase.specs.Cursor.{Cursor}
use Rattle.pli_attributes.proofs.Posts.{Post, Never, never, post_ok, post_stuck, post_left, post_bind, post_if, post_weaken}
use Rattle.pli_attributes.proofs.Tokens.{taken_post, name_post}
use Rattle.pli_attributes.proofs.Expressions.{expr_post}
use Rattle.pli_stream.proofs.Laws.{Leaves, transfer_post}
use Rattle.pli_clause.proofs.Parts.{ReadsMarked}
use Rattle.pli_clause.proofs.References.{reference_post, arguments_post, value_post}
use Rattle.pli_clause.proofs.Conditions.{condition_post}
use Rattle.pli_clause.proofs.Placings.{allocations_post, freeings_post}
use Rattle.pli_head.specs.Reading.{assignment_from, call_from, return_from, label_from, go_from, signal_from, revert_from, allocate_from, free_from, moved_from, other_from, simple_behind}

-- a form that is left out stands in the head that begins here
pub record LeavesHead (s : List ℕ) (c : Cursor) (d : Cursor) : Type 0 where
  pub leaves : G.LeavesOut s c.tokens c.marks d.tokens d.marks

abbrev SimpleBy : List ℕ → Cursor → T.Stmt × Cursor → Type 0
SimpleBy s c x = ReadsMarked (SpellsSimple s) c x

made : (s : List ℕ) (c : Cursor) (x : T.Stmt) (e : Cursor) (m : Marks) → SpellsSimple s c.tokens c.marks x e.tokens m → e.marks ≡ m → length e.tokens ≤ length c.tokens → SimpleBy s c (x, e)
made s c x e m h k l = record { spelled = subst (λ u. SpellsSimple s c.tokens c.marks x e.tokens u) (sym k) h; shorter = l }

pub assignment_post : (s : List ℕ) (c : Cursor) (t : Token) (rest : List Token) → c.tokens ≡ t ∷ rest → ¬ BeginsIf s c.tokens → Post (ReadsMarked (SpellsSimple s) c) Never (assignment_from s (place_of t) c)
unfolding assignment_from
assignment_post s c t rest i n =
    post_bind _ _ (reference_post s c) (λ r g. post_bind _ _ (taken_post (K.Symbol S.Equal) r.1) (λ u k. post_bind _ _ (expr_post s u.1) (λ e a. post_ok (made s c (T.Assign r.0 e.0 (place_of t)) e.1 (expr_marks e.0 (reference_marks r.0 c.marks)) (G.assignment c.tokens rest r.1.tokens u.1.tokens e.1.tokens c.marks t u.0 r.0 e.0 i n g.spelled k.take a.spelled) (a.marked ∙ ap (expr_marks e.0) (k.marked ∙ g.marked)) (omega (arith, g.shorter, k.shorter, a.shorter))))))

-- behind a word that opens a head
module _ (s : List ℕ) (c d : Cursor) (t : Token) (m : d.marks ≡ c.marks) (l : length d.tokens < length c.tokens) (no : ¬ Assigns s c.tokens) where
  opened : (w : Word) → Takes c.tokens (K.Name w) t d.tokens → Opens s c.tokens w t d.tokens
  opened w a = record { taken = a; no_assignment = no }

  call_post : Takes c.tokens (K.Name W.Call) t d.tokens → Post (SimpleBy s c) (LeavesHead s c) (call_from s (place_of t) d)
  call_post a =
      post_bind _ _ (never _ _ (name_post s d)) (λ n k. post_bind _ _ (never _ _ (arguments_post s n.1)) (λ x g. post_ok (made s c (T.Call n.0 x.0 (place_of t)) x.1 (arguments_marks x.0 c.marks) (subst (λ u. SpellsSimple s c.tokens c.marks (T.Call u x.0 (place_of t)) x.1.tokens (arguments_marks x.0 c.marks)) (sym k.is) (G.call c.tokens d.tokens n.1.tokens x.1.tokens c.marks t k.token k.word x.0 (opened W.Call a) k.take g.spelled)) (g.marked ∙ ap (arguments_marks x.0) (k.marked ∙ m)) (omega (arith, l, k.shorter, g.shorter)))))

  return_post : Takes c.tokens (K.Name W.Return) t d.tokens → Post (SimpleBy s c) (LeavesHead s c) (return_from s (place_of t) d)
  return_post a =
      post_bind _ _ (never _ _ (value_post s d)) (λ v g. post_ok (made s c (T.Return v.0 (place_of t)) v.1 (marks_if expr_marks v.0 c.marks) (G.return' c.tokens d.tokens v.1.tokens c.marks t v.0 (opened W.Return a) g.spelled) (g.marked ∙ ap (marks_if expr_marks v.0) m) (omega (arith, l, g.shorter))))

  label_post : (e : Cursor) → SpellsGoto s c.tokens t e.tokens → e.marks ≡ c.marks → length e.tokens < length c.tokens → Post (SimpleBy s c) (LeavesHead s c) (label_from s (place_of t) e)
  label_post e g i j =
      post_bind _ _ (never _ _ (name_post s e)) (λ n k. post_ok (made s c (T.Goto n.0 (place_of t)) n.1 c.marks (subst (λ u. SpellsSimple s c.tokens c.marks (T.Goto u (place_of t)) n.1.tokens c.marks) (sym k.is) (G.goto c.tokens e.tokens n.1.tokens c.marks t k.token k.word g k.take)) (k.marked ∙ i) (omega (arith, j, k.shorter))))

  go_post : Takes c.tokens (K.Name W.Go) t d.tokens → Post (SimpleBy s c) (LeavesHead s c) (go_from s (place_of t) d)
  go_post a =
      post_bind _ _ (never _ _ (taken_post (K.Name W.To) d)) (λ u k. label_post u.1 (G.go_to c.tokens d.tokens u.1.tokens t u.0 (opened W.Go a) k.take) (k.marked ∙ m) (omega (arith, l, k.shorter)))

  signal_post : Takes c.tokens (K.Name W.Signal) t d.tokens → Post (SimpleBy s c) (LeavesHead s c) (signal_from (place_of t) d)
  signal_post a =
      post_bind _ _ (never _ _ (condition_post d)) (λ x g. post_ok (made s c (T.Signal x.0 (place_of t)) x.1 c.marks (G.signal c.tokens d.tokens x.1.tokens c.marks t x.0 (opened W.Signal a) g.spelled) (g.marked ∙ m) (omega (arith, l, g.shorter))))

  revert_post : Takes c.tokens (K.Name W.Revert) t d.tokens → Post (SimpleBy s c) (LeavesHead s c) (revert_from (place_of t) d)
  revert_post a =
      post_bind _ _ (never _ _ (condition_post d)) (λ x g. post_ok (made s c (T.Revert x.0 (place_of t)) x.1 c.marks (G.revert c.tokens d.tokens x.1.tokens c.marks t x.0 (opened W.Revert a) g.spelled) (g.marked ∙ m) (omega (arith, l, g.shorter))))

  allocate_post : Takes c.tokens (K.Name W.Allocate) t d.tokens → Post (SimpleBy s c) (LeavesHead s c) (allocate_from s (place_of t) d)
  allocate_post a =
      post_bind _ _ (never _ _ (allocations_post s d)) (λ x g. post_ok (made s c (T.Allocate x.0 (place_of t)) x.1 x.1.marks (G.allocate c.tokens d.tokens x.1.tokens c.marks x.1.marks t x.0 (opened W.Allocate a) (subst (λ u. SpellsAllocations s d.tokens u x.0 x.1.tokens x.1.marks) m g.spelled)) refl (omega (arith, l, g.shorter))))

  free_post : Takes c.tokens (K.Name W.Free) t d.tokens → Post (SimpleBy s c) (LeavesHead s c) (free_from s (place_of t) d)
  free_post a =
      post_bind _ _ (never _ _ (freeings_post s d)) (λ x g. post_ok (made s c (T.Free x.0 (place_of t)) x.1 (freeings_marks x.0 c.marks) (G.free c.tokens d.tokens x.1.tokens c.marks t x.0 (opened W.Free a) g.spelled) (g.marked ∙ ap (freeings_marks x.0) m) (omega (arith, l, g.shorter))))

  leaves_stream : (way : Direction) (e : Cursor) → Takes c.tokens (K.Name (stream_word way)) t d.tokens → Leaves d e → LeavesHead s c e
  leaves_stream way e a h =
      subst (λ u. LeavesHead s c u) (sym h.is) (record { leaves = subst (λ n. G.LeavesOut s c.tokens c.marks d.tokens n) (sym m) (G.stream way c.tokens d.tokens h.rest c.marks t h.token h.word (opened (stream_word way) a) h.take h.so) })

  moved_post : (way : Direction) → Takes c.tokens (K.Name (stream_word way)) t d.tokens → Post (SimpleBy s c) (LeavesHead s c) (moved_from s way (place_of t) d)
  moved_post way a =
      post_bind _ _ (post_weaken _ (transfer_post s way d) (λ x g. g) (λ e h. leaves_stream way e a h)) (λ x g. post_ok (made s c (moving way x.0.skip x.0.pairs (place_of t)) x.1 (pairs_marks way x.0.pairs (skip_marks x.0.skip c.marks)) (G.move way c.tokens d.tokens g.mid x.1.tokens c.marks t x.0.skip x.0.pairs (opened (stream_word way) a) g.options g.edit g.moves) (g.marked ∙ ap (λ n. pairs_marks way x.0.pairs (skip_marks x.0.skip n)) m) (omega (arith, l, g.shorter))))

  other_post : (word : Word) → Takes c.tokens (K.Name word) t d.tokens → Post (SimpleBy s c) (LeavesHead s c) (other_from c.tokens word d)
  other_post word a =
      post_if _ _ _
      (λ e. post_left (record { leaves = subst (λ n. G.LeavesOut s c.tokens c.marks c.tokens n) (sym m) (G.head c.tokens d.tokens c.marks t word (opened word a) e) }))
      (λ e. post_stuck)

  pub simple_post : (word : Word) → Takes c.tokens (K.Name word) t d.tokens → Post (ReadsMarked (SpellsSimple s) c) (LeavesHead s c) (simple_behind s c.tokens (place_of t) word d)
  unfolding simple_behind
  simple_post W.Call a = call_post a
  simple_post W.Return a = return_post a
  simple_post W.Goto a = label_post d (G.goto c.tokens d.tokens t (opened W.Goto a)) m l
  simple_post W.Go a = go_post a
  simple_post W.Stop a =
      post_ok (made s c (T.Stop (place_of t)) d c.marks (G.stop c.tokens d.tokens c.marks t (opened W.Stop a)) m (omega (arith, l)))
  simple_post W.Signal a = signal_post a
  simple_post W.Revert a = revert_post a
  simple_post W.Allocate a = allocate_post a
  simple_post W.Free a = free_post a
  simple_post W.Get a = moved_post Getting a
  simple_post W.Put a = moved_post Putting a
  simple_post word a = other_post word a
