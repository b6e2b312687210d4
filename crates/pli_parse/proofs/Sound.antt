-- A source is read as the rules say.
use Rattle.std.proofs.Common.{◌≡◌, ℕ, zero, suc, ◌<◌, ◌≤◌, ◌⊎◌, inl, inr, List, [], ◌∷◌, ◌++◌, length, Bool, true, false, Option, Some, None, Ok, Err, refl, sym, ap, ◌∙◌, subst, arith, append_assoc}
use Rattle.std.specs.Prelude.{not, if◌then◌else◌}
use Rattle.pli_language.specs.declared.expr.Place.{Place}
use Rattle.pli_language.specs.declared.fault.SourceFault.{SourceFault}
use Rattle.pli_language.specs.declared.fault.SourceKind.TheVariants.{LeftOut}
use Rattle.pli_language.specs.declared.token.Token.{Token}
use Rattle.pli_language.specs.Heads as G
use Rattle.pli_language.specs.Heads.{Head, Else, SpellsHead}
use Rattle.pli_language.specs.Marks.{no_marks, fault_at}
use Rattle.pli_language.specs.Nesting.{Frame, InList, ThenDue, ThenWhole, ElseDue, UnitDue, Nest, entered, settled, misplaced, nest_faults, items_of_list}
use Rattle.pli_language.specs.Parsing as P
use Rattle.pli_language.specs.Parsing.{SpellsLabels, no_label, label, BeginsHead, BeginsLeftOut, IsMisplacedAt, Reads, faults_of, syntax_at, end_of}
use Rattle.pli_language.specs.Spells.{place_of}
use Rattle.pli_language.specs.Tree.{Name, Tree}
use Rattle.pli_phrase.specs.Cursor.{Cursor, Missed, Stuck, Ended, LeavesOut, Read}
use Rattle.pli_head.specs.Reading.{head_from}
use Rattle.pli_head.proofs.Laws.{head_sound, head_leaves}
use Rattle.pli_head.proofs.CompleteHeads.{head_complete}
use Rattle.pli_head.proofs.LeftOut.{head_left_out}
use Rattle.pli_nest.specs.Steps.{is_none, entry, entry_as}
use Rattle.pli_nest.specs.Standing.{is_stray_else}
use Rattle.pli_nest.proofs.Stood.{stood, else_stood}
use Rattle.pli_parse.specs.Reading.{Parsed, Turn, GoesOn, Over, ended_with, at_end, broken_at, left_out_place, placed, left_out_in, head_read, head_turn, turn, labels_from, source_from, turned}
use Rattle.pli_parse.proofs.LabelLaws.{labels_sound}
use Rattle.pli_parse.proofs.Continuing.{Refused, refused_where}

-- ---- one turn

abbrev turn_holds : List ℕ → Nest → List Token → Turn → Type 0
turn_holds s n ts (GoesOn fs n' rest) =
    (length rest < length ts) × ((gs : List SourceFault) (tree : Option Tree) → Reads s n' rest gs tree → Reads s n ts (fs ++ gs) tree)
turn_holds s n ts (Over r) = Reads s n ts r.faults r.tree

-- what a turn comes to is read so
pub record TurnReads (s : List ℕ) (n : Nest) (ts : List Token) (x : Turn) : Type 0 where
  pub holds : turn_holds s n ts x

-- ---- where no token is left

-- no label is misplaced where there is none
unlabelled : (fs : List Frame) (at : Place) → misplaced fs [] at ≡ at
unlabelled [] at = refl
unlabelled (InList o labels items pending ∷ fs) at = refl
unlabelled (ThenDue e p ∷ fs) at = refl
unlabelled (ThenWhole e u p ∷ fs) at = refl
unlabelled (ElseDue e u p ∷ fs) at = refl
unlabelled (UnitDue c p ∷ fs) at = refl

whole_read : {s : List ℕ} {n : Nest} {ts : List Token} → SpellsLabels s ts [] [] → n.frames ≡ [] → Reads s n ts [] (Some (record { procedures = items_of_list n.outer }))
whole_read {n = n} (no_label ts e) h = P.all_read n h

module _ (s : List ℕ) (n : Nest) (ts : List Token) where
  unlabelled_end : (frames : List Frame) → SpellsLabels s ts [] [] → n.frames ≡ frames → TurnReads s n ts (Over (ended_with s (if is_none frames then Some (record { procedures = items_of_list n.outer }) else None)))
  unlabelled_end [] g e = record { holds = whole_read g e }
  unlabelled_end (f ∷ fs) g e =
      let r : Reads s n ts (syntax_at (misplaced (settled n.frames) [] (end_of s)) ∷ []) None = P.too_early n ts [] g (inl (λ i. absurd (cc (e, i)))) in
      record { holds = subst (λ p. Reads s n ts (syntax_at p ∷ []) None) (unlabelled (settled n.frames) (end_of s)) r }

  end_read : (ls : List Name) → SpellsLabels s ts ls [] → TurnReads s n ts (Over (at_end s n ls))
  end_read [] g = unlabelled_end n.frames g refl
  end_read (l ∷ ls) g = record { holds = P.too_early n ts (l ∷ ls) g (inr (λ i. absurd (cc i))) }

stood_none : {X : Type 0} (o : Option X) → stood o ≡ false → o ≡ None
stood_none None e = refl
stood_none (Some x) e = absurd (cc e)

-- ---- where a head is due

module _ (s : List ℕ) (n : Nest) (ts : List Token) (ls : List Name) (t : Token) (mid : List Token) (front : SpellsLabels s ts ls (t ∷ mid)) (less : length (t ∷ mid) ≤ length ts) where
  abbrev here : Cursor
  here = record { tokens = t ∷ mid; marks = no_marks }

  -- a head that may not stand, other than ELSE, is refused at its first token
  misplaced_at : (h : Head) → entered n ls h ≡ None → is_stray_else n ls h ≡ false → IsMisplacedAt s n ls h t mid (place_of t)
  misplaced_at (Else p) e i =
      let k : stood (entered n ls (Else p)) ≡ true = else_stood n ls p ∙ ap not i in
      absurd (cc (ap stood e, k))
  misplaced_at _ e i = refl

  stray_read : (h : Head) (c : Cursor) → is_stray_else n ls h ≡ true → head_from s here ≡ Ok (h, c) → SpellsHead s (t ∷ mid) no_marks h c.tokens c.marks → TurnReads s n ts (Over (broken_at s n ls (place_of t) (t ∷ mid)))
  stray_read (Else p) c i e g =
      let k : stood (entered n ls (Else p)) ≡ false = else_stood n ls p ∙ ap not i in
      record { holds = P.misplaced_head n ts mid c.tokens ls (Else p) c.marks t _ front g (stood_none (entered n ls (Else p)) k) (refused_where s n ls t mid (Refused.stray (Else p) c e i)) }
  stray_read _ c i e g = absurd (cc i)

  entered_read : (h : Head) (c : Cursor) (o : Option Nest) → entered n ls h ≡ o → is_stray_else n ls h ≡ false → SpellsHead s (t ∷ mid) no_marks h c.tokens c.marks → length c.tokens < length (t ∷ mid) → TurnReads s n ts (placed (entry_as (misplaced (settled n.frames) ls (place_of t)) (nest_faults (settled n.frames) h) o) (t ∷ mid) c)
  entered_read h c None e i g shorter = record { holds = P.misplaced_head n ts mid c.tokens ls h c.marks t (place_of t) front g e (misplaced_at h e i) }
  entered_read h c (Some n') e i g shorter =
      let fewer : length c.tokens < length ts = omega (arith, shorter, less) in
      record { holds = (fewer, λ gs tree r. subst (λ u. Reads s n ts u tree) (sym (append_assoc (faults_of (t ∷ mid) c.tokens c.marks) (nest_faults (settled n.frames) h) gs)) (P.head n n' ts (t ∷ mid) c.tokens ls h c.marks gs tree front g e r)) }

  left_out_read : (d : Cursor) (u : Token) (us : List Token) → d.tokens ≡ u ∷ us → G.LeavesOut s (t ∷ mid) no_marks d.tokens d.marks → TurnReads s n ts (Over (left_out_in (place_of t) (t ∷ mid) d))
  left_out_read d u us e g =
      let g' : G.LeavesOut s (t ∷ mid) no_marks (u ∷ us) d.marks = subst (λ v. G.LeavesOut s (t ∷ mid) no_marks v d.marks) e g in
      let r : Reads s n ts (faults_of (t ∷ mid) (u ∷ us) d.marks ++ fault_at (left_out_place (place_of t) (u ∷ us)) LeftOut ∷ []) None = P.left_out n ts (t ∷ mid) us ls d.marks u front g' in
      record { holds = subst (λ v. Reads s n ts (faults_of (t ∷ mid) v d.marks ++ fault_at (left_out_place (place_of t) v) LeftOut ∷ []) None) (sym e) r }

  no_head_here : (m : Missed) → ((x : Head × Cursor) → Ok x ≡ Err m → ⊥) → head_from s here ≡ Err m → ¬ BeginsHead s (t ∷ mid)
  no_head_here m differs e b = differs (b.0, record { tokens = b.1; marks = b.2 }) (sym (head_complete b.3) ∙ e)

  none_left_out : (m : Missed) → ((d : Cursor) → m ≡ LeavesOut d → ⊥) → head_from s here ≡ Err m → ¬ BeginsLeftOut s (t ∷ mid)
  none_left_out m differs e b = let i = head_left_out b.2 in differs (record { tokens = b.0; marks = b.1 }) (cc (e, i))

  -- a head that was read, which may be a stray ELSE
  head_read_by : (x : Head × Cursor) → head_from s here ≡ Ok x → (b : Bool) → is_stray_else n ls x.0 ≡ b → TurnReads s n ts (if b then Over (broken_at s n ls (place_of t) (t ∷ mid)) else placed (entry n ls x.0 (place_of t)) (t ∷ mid) x.1)
  head_read_by x e true i = stray_read x.0 x.1 i e (head_sound s here x e).spelled
  head_read_by x e false i =
      let h = head_sound s here x e in
      entered_read x.0 x.1 (entered n ls x.0) refl i h.spelled h.shorter

  head_turn_read : (r : Read Head) → head_from s here ≡ r → TurnReads s n ts (head_read s n ls (place_of t) (t ∷ mid) r)
  head_turn_read (Ok x) e = head_read_by x e (is_stray_else n ls x.0) refl
  head_turn_read (Err Stuck) e =
      record { holds = P.no_head n ts mid ls t _ front (no_head_here Stuck (λ x i. absurd (cc i)) e) (none_left_out Stuck (λ d i. absurd (cc i)) e) (refused_where s n ls t mid (Refused.stuck e)) }
  head_turn_read (Err Ended) e =
      record { holds = P.no_head n ts mid ls t _ front (no_head_here Ended (λ x i. absurd (cc i)) e) (none_left_out Ended (λ d i. absurd (cc i)) e) (refused_where s n ls t mid (Refused.ends e)) }
  head_turn_read (Err (LeavesOut d)) e =
      let h = head_leaves s here d e in
      left_out_read d h.begun.token h.begun.behind h.begun.is h.leaves

behind_labels : (s : List ℕ) (n : Nest) (ts : List Token) (ls : List Name) (mid : List Token) → SpellsLabels s ts ls mid → length mid ≤ length ts → TurnReads s n ts (head_turn s n ls mid)
behind_labels s n ts ls [] front less = end_read s n ts ls front
behind_labels s n ts ls (t ∷ mid) front less = head_turn_read s n ts ls t mid front less (head_from s (record { tokens = t ∷ mid; marks = no_marks })) refl

pub turn_sound : (s : List ℕ) (n : Nest) (ts : List Token) → TurnReads s n ts (turn s n ts)
unfolding turn
turn_sound s n ts =
    let labels = labels_sound s ts in
    behind_labels s n ts (labels_from s ts).0 (labels_from s ts).1 labels.spelled labels.no_longer

-- ---- sources

turned_sound : (s : List ℕ) (n : Nest) (ts : List Token) (fuel : ℕ) (further : Nest → List Token → Parsed) → ((n' : Nest) (rest : List Token) → length rest < fuel → Reads s n' rest (further n' rest).faults (further n' rest).tree) → (x : Turn) → TurnReads s n ts x → length ts < suc fuel → Reads s n ts (turned further x).faults (turned further x).tree
turned_sound s n ts fuel further sound (GoesOn fs n' rest) h enough =
    let less : length rest < length ts = h.holds.0 in
    h.holds.1 (further n' rest).faults (further n' rest).tree (sound n' rest (omega (arith, less, enough)))
turned_sound s n ts fuel further sound (Over r) h enough = h.holds

-- what reading gives is what the rules say of these tokens
pub source_sound : (fuel : ℕ) (s : List ℕ) (n : Nest) (ts : List Token) → length ts < fuel → Reads s n ts (source_from fuel s n ts).faults (source_from fuel s n ts).tree
unfolding source_from
source_sound zero s n ts enough = absurd (omega (arith, enough))
source_sound (suc fuel) s n ts enough =
    turned_sound s n ts fuel (λ n' rest. source_from fuel s n' rest) (λ n' rest fewer. source_sound fuel s n' rest fewer) (turn s n ts) (turn_sound s n ts) enough
