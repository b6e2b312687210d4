-- A head may go on behind the end of the source just where the code says so.
use Rattle.std.proofs.Common.{◌≡◌, ◌≢◌, ◌⊎◌, inl, inr, ℕ, List, [], ◌∷◌, ◌++◌, Option, Some, None, Bool, true, false, Ok, Err, refl, sym, ap, ◌∙◌, subst}
use Rattle.std.specs.Prelude.{not, if◌then◌else◌, ◌&&◌, ◌||◌}
use Rattle.pli_language.specs.declared.expr.Place.{Place}
use Rattle.pli_language.specs.declared.token.Word.{Word}
use Rattle.pli_language.specs.declared.token.Word.TheVariants as W
use Rattle.pli_language.specs.declared.token.Symbol.TheVariants as S
use Rattle.pli_language.specs.declared.token.Kind.{Kind}
use Rattle.pli_language.specs.declared.token.Kind.TheVariants as K
use Rattle.pli_language.specs.declared.token.Token.{Token}
use Rattle.pli_language.specs.Formats.{Getting, Putting}
use Rattle.pli_language.specs.Heads as G
use Rattle.pli_language.specs.Heads.{Head, Simple, Else, Assigns, Opens, SpellsSimple, SpellsHead, is_left_out_head}
use Rattle.pli_language.specs.Marks.{Marks, no_marks}
use Rattle.pli_language.specs.Nesting.{Nest, Frame, entered, settled}
use Rattle.pli_language.specs.Parsing.{MayGoOn, IsRefusedAt, end_of}
use Rattle.pli_language.specs.Spells.{Takes, next_kind, place_of}
use Rattle.pli_language.specs.Tree as T
use Rattle.pli_phrase.specs.Cursor.{Cursor, Missed, Stuck, Ended, LeavesOut, Read, ◌>>=◌, onto}
use Rattle.pli_phrase.specs.Tokens.{is_terminal, starts_name, begins, taken}
use Rattle.pli_phrase.specs.declared.expression.Beginning.{Beginning}
use Rattle.pli_phrase.specs.declared.expression.Beginning.TheVariants.{Begins, Differs, Unknown}
use Rattle.pli_phrase.proofs.Prefixes.{longer, Open}
use Rattle.pli_attributes.proofs.Tokens.{takes_next}
use Rattle.pli_clause.specs.Parts.{word_of_kind, word_from}
use Rattle.pli_head.specs.Reading.{assigns, null_from, head_behind, worded, head_from}
use Rattle.pli_head.specs.Continuing.{is_ended, may_assign, is_not_begun, is_if, ends_assignment, ends_word, word_if, continued, continuations}
use Rattle.pli_head.proofs.Beginnings.{assigns_complete}
use Rattle.pli_head.proofs.Laws.{head_sound}
use Rattle.pli_head.proofs.CompleteHeads.{head_complete}
use Rattle.pli_head.proofs.Continuing as C
use Rattle.pli_head.proofs.Continuing.{both_first, both_second, is_ended_so, unknown_assigning, IsAssigned, assigning_is, NotWhole, GoesOn, goes_on, head_begun, head_worded, if_behind}
use Rattle.pli_head.proofs.Completing.{Completed, CompletedWord, assigned_completed, complete_worded, complete_if}
use Rattle.pli_head.proofs.ProcedureEnds.{procedure_completed}
use Rattle.pli_nest.specs.declared.standing.Front.{Front}
use Rattle.pli_nest.specs.declared.standing.Front.TheVariants as R
use Rattle.pli_nest.specs.Steps.{is_else}
use Rattle.pli_nest.specs.Standing.{front_of, front_of_word, may_stand, word_may_stand, may_go_on, is_stray_else}
use Rattle.pli_nest.proofs.Stood.{stood, head_stood, else_stood, unit_stands}

-- ---- heads by their words

abbrev is_else_word : Word → Bool
is_else_word W.Else = true
is_else_word _ = false

word_of : {s : List ℕ} {ts us after : List Token} {t u : Token} {v w : Word} → Opens s ts v u after → ts ≡ t ∷ us → t.kind ≡ K.Name w → v ≡ w
word_of {t = t} {u = u} {v = v} {w = w} o e k =
    let same : u ≡ t = cc (o.taken.is, e) in
    let i : K.Name v ≡ K.Name w = sym o.taken.of_kind ∙ (ap (λ x. x.kind) same ∙ k) in
    cc i

-- what tells of the head of a word whether it may stand
record OfWord (w : Word) (h : Head) : Type 0 where
  front : front_of h ≡ front_of_word w
  no_else : is_else h ≡ is_else_word w

of_word : {v w : Word} {h : Head} → v ≡ w → front_of h ≡ front_of_word v → is_else h ≡ is_else_word v → OfWord w h
of_word e f g = record { front = f ∙ ap front_of_word e; no_else = g ∙ ap is_else_word e }

simple_of : {s : List ℕ} {ts us rest : List Token} {t : Token} {w : Word} {x : T.Stmt} {m m' : Marks} → SpellsSimple s ts m x rest m' → ts ≡ t ∷ us → t.kind ≡ K.Name w → ¬ Assigns s ts → OfWord w (Simple x)
simple_of {t = t} {w = w} (G.null ts rest m u i of_kind) e k n =
    let same : u ≡ t = cc (i, e) in
    let j : K.Symbol S.Semicolon ≡ K.Name w = sym of_kind ∙ (ap (λ x. x.kind) same ∙ k) in
    absurd (cc j)
simple_of (G.assignment ts later mid after rest m u v r x i no_if g equal a) e k n =
    absurd (n (record { begins = record { reference = r; behind = mid; spelled = g; equal = takes_next equal }; no_if = no_if }))
simple_of (G.call ts after mid rest m u v word a o i g) e k n = of_word (word_of o e k) refl refl
simple_of (G.return' ts after rest m u v o g) e k n = of_word (word_of o e k) refl refl
simple_of (G.goto ts after rest m u v word (G.goto ts' after' u' o) i) e k n = of_word (word_of o e k) refl refl
simple_of (G.goto ts after rest m u v word (G.go_to ts' after' rest' u' v' o z) i) e k n = of_word (word_of o e k) refl refl
simple_of (G.stop ts rest m u o) e k n = of_word (word_of o e k) refl refl
simple_of (G.signal ts after rest m u c o g) e k n = of_word (word_of o e k) refl refl
simple_of (G.revert ts after rest m u c o g) e k n = of_word (word_of o e k) refl refl
simple_of (G.allocate ts after rest m m' u others o g) e k n = of_word (word_of o e k) refl refl
simple_of (G.free ts after rest m u fs o g) e k n = of_word (word_of o e k) refl refl
simple_of (G.move Getting ts after mid rest m u y ps o g h moves) e k n = of_word (word_of o e k) refl refl
simple_of (G.move Putting ts after mid rest m u y ps o g h moves) e k n = of_word (word_of o e k) refl refl

-- a head that is no assignment is that of its first word
head_of_word : {s : List ℕ} {ts us rest : List Token} {t : Token} {w : Word} {h : Head} {m m' : Marks} → SpellsHead s ts m h rest m' → ts ≡ t ∷ us → t.kind ≡ K.Name w → ¬ Assigns s ts → OfWord w h
head_of_word (G.procedure ts after mid later rest m u v ns options o g h i) e k n = of_word (word_of o e k) refl refl
head_of_word (G.declare ts after mid rest m u v ds o g i) e k n = of_word (word_of o e k) refl refl
head_of_word (G.simple ts mid rest m m' u x g i) e k n = simple_of g e k n
head_of_word (G.if_then ts after mid rest m u v c o g i) e k n = of_word (word_of o e k) refl refl
head_of_word (G.else' ts rest m u o) e k n = of_word (word_of o e k) refl refl
head_of_word (G.do_group ts after rest m u v o i) e k n = of_word (word_of o e k) refl refl
head_of_word (G.do_while ts after mid later rest m u v x c o take g i) e k n = of_word (word_of o e k) refl refl
head_of_word (G.do_count ts after mid rest m m' u v c o g i) e k n = of_word (word_of o e k) refl refl
head_of_word (G.begin ts after rest m u v o i) e k n = of_word (word_of o e k) refl refl
head_of_word (G.on ts after rest m u c o g) e k n = of_word (word_of o e k) refl refl
head_of_word (G.system ts after rest m u v o i) e k n = of_word (word_of o e k) refl refl
head_of_word (G.unnamed_end ts after rest m u v o i) e k n = of_word (word_of o e k) refl refl
head_of_word (G.named_end ts after mid rest m u v x word o i j) e k n = of_word (word_of o e k) refl refl

-- ---- standing

stood_some : {X : Type 0} (o : Option X) → o ≢ None → stood o ≡ true
stood_some None n = absurd (n refl)
stood_some (Some x) n = refl

stray_head : (n : Nest) (ls : List T.Name) (h : Head) → is_else h ≡ true → is_stray_else n ls h ≡ true → entered n ls h ≢ None → ⊥
stray_head n ls (Else p) e is_stray stands =
    let a = else_stood n ls p ∙ ap not is_stray in
    let b = stood_some (entered n ls (Else p)) stands in
    cc (sym b ∙ a)
stray_head n ls _ e is_stray stands = cc e

some_stood : {X : Type 0} (o : Option X) → stood o ≡ true → o ≢ None
some_stood None e i = cc e
some_stood (Some x) e i = cc i

either_first : (a b : Bool) → a ≡ true → (a || b) ≡ true
either_first true b e = refl
either_first false b e = absurd (cc e)

either_second : (a b : Bool) → b ≡ true → (a || b) ≡ true
either_second true b e = refl
either_second false b e = e

both_true : (a b : Bool) → a ≡ true → b ≡ true → (a && b) ≡ true
both_true true b e h = h
both_true false b e h = absurd (cc e)

else_word : (w : Word) → is_else_word w ≡ true → w ≡ W.Else
else_word W.Else e = refl
else_word _ e = absurd (cc e)

else_none : (w : Word) → (w ≡ W.Else → ⊥) → is_else_word w ≡ false
else_none W.Else n = absurd (n refl)
else_none _ n = refl

is_if_word : (w : Word) → is_if w ≡ true → w ≡ W.If
is_if_word W.If e = refl
is_if_word _ e = absurd (cc e)

procedure_word : (w : Word) → (w ≡ W.Procedure) ⊎ (front_of_word w ≡ R.Procedure → ⊥)
procedure_word W.Procedure = inl refl
procedure_word _ = inr (λ e. cc e)

module _ (s : List ℕ) (n : Nest) (ls : List T.Name) (t : Token) (mid : List Token) (w : Word) (is : t.kind ≡ K.Name w) where
  abbrev here : Cursor
  here = record { tokens = t ∷ mid; marks = no_marks }

  abbrev frames : List Frame
  frames = settled n.frames

  abbrev ends_assigned : Bool
  ends_assigned = ends_assignment s (assigns s here) (place_of t) here

  abbrev ends_worded : Bool
  ends_worded = ends_word s (assigns s here) (t ∷ mid) (place_of t) w (record { tokens = mid; marks = no_marks })

  abbrev may : Bool
  may = (ends_assigned && may_stand frames ls R.Unit) || word_may_stand frames ls (word_if ends_worded w)

  word_may : ends_worded ≡ true → may_stand frames ls (front_of_word w) ≡ true → word_may_stand frames ls (word_if ends_worded w) ≡ true
  word_may e h = ap (λ b. word_may_stand frames ls (word_if b w)) e ∙ h

  -- ---- with more behind it is a head that may stand

  -- ELSE alone is whole
  ended_no_else : ends_worded ≡ true → w ≢ W.Else
  unfolding head_behind
  ended_no_else e i =
      let ends = both_second (is_not_begun (assigns s here) || is_if w) (is_ended (head_behind s (t ∷ mid) (place_of t) w (record { tokens = mid; marks = no_marks }))) e in
      let k = ap (λ v. is_ended (head_behind s (t ∷ mid) (place_of t) v (record { tokens = mid; marks = no_marks }))) i in
      cc (sym k ∙ ends)

  module _ (more rest : List Token) (h : Head) (m : Marks) (g : SpellsHead s (t ∷ (mid ++ more)) no_marks h rest m) (stands : entered n ls h ≢ None) where
    abbrev there : Cursor
    there = longer here more

    assigned_may : ends_assigned ≡ true → IsAssigned h → may ≡ true
    assigned_may e a =
        let front : front_of h ≡ R.Unit = ap front_of a.is in
        let none : is_else h ≡ false = ap is_else a.is in
        let stand : may_stand frames ls R.Unit ≡ true = sym (ap (may_stand frames ls) front) ∙ (sym (head_stood n ls h none) ∙ stood_some (entered n ls h) stands) in
        either_first (ends_assigned && may_stand frames ls R.Unit) _ (both_true ends_assigned (may_stand frames ls R.Unit) e stand)

    of_its_word : assigns s there ≢ Begins → OfWord w h
    of_its_word none = head_of_word g refl is (λ a. none (assigns_complete s there a))

    worded_may : w ≢ W.Else → ends_worded ≡ true → assigns s there ≢ Begins → may ≡ true
    worded_may other e none =
        let k = of_its_word none in
        let stand : may_stand frames ls (front_of_word w) ≡ true = sym (ap (may_stand frames ls) k.front) ∙ (sym (head_stood n ls h (k.no_else ∙ else_none w other)) ∙ stood_some (entered n ls h) stands) in
        either_second (ends_assigned && may_stand frames ls R.Unit) _ (word_may e stand)

    -- a stray ELSE stands nowhere
    stray_stands : is_else h ≡ true → is_stray_else n ls h ≡ true → ⊥
    stray_stands e is_stray = stray_head n ls h e is_stray stands

    -- what it goes on as may stand
    goes_may : (w ≡ W.Else → assigns s here ≢ Begins → (k : Head) → is_else k ≡ true → is_stray_else n ls k ≡ true) → GoesOn s t w no_marks is mid more (h, record { tokens = rest; marks = m }) → may ≡ true
    goes_may stray (GoesOn.assigned e a) = assigned_may e a
    goes_may stray (GoesOn.of_word e none) = worded_may (ended_no_else e) e none
    goes_may stray (GoesOn.else_again i yet none) =
        let k : is_else h ≡ true = (of_its_word none).no_else ∙ ap is_else_word i in
        absurd (stray_stands k (stray i yet h k))

  -- ---- how it is completed

  assigned_stands : may_stand frames ls R.Unit ≡ true → Completed s here → MayGoOn s n ls (t ∷ mid)
  assigned_stands stand k =
      let g = (head_sound s (longer here k.more) (k.head, k.rest) k.reads).spelled in
      let front : front_of k.head ≡ R.Unit = ap front_of k.assigned.is in
      let none : is_else k.head ≡ false = ap is_else k.assigned.is in
      let some : stood (entered n ls k.head) ≡ true = head_stood n ls k.head none ∙ (ap (may_stand frames ls) front ∙ stand) in
      (k.more, k.head, k.rest.tokens, k.rest.marks, (g, some_stood (entered n ls k.head) some))

  worded_stands : w ≢ W.Else → may_stand frames ls (front_of_word w) ≡ true → CompletedWord s here → MayGoOn s n ls (t ∷ mid)
  worded_stands other stand k =
      let g = (head_sound s (longer here k.more) (k.head, k.rest) k.reads).spelled in
      let word = head_of_word g refl is (λ a. k.worded (assigns_complete s (longer here k.more) a)) in
      let some : stood (entered n ls k.head) ≡ true = head_stood n ls k.head (word.no_else ∙ else_none w other) ∙ (ap (may_stand frames ls) word.front ∙ stand) in
      (k.more, k.head, k.rest.tokens, k.rest.marks, (g, some_stood (entered n ls k.head) some))

  abbrev word_here : Read Head
  word_here = head_behind s (t ∷ mid) (place_of t) w (record { tokens = mid; marks = no_marks })

  -- where the tokens end in what may be a reference, a statement may stand, or the head of a procedure is begun
  unknown_stands : w ≢ W.Else → word_here ≡ Err Ended → may_stand frames ls (front_of_word w) ≡ true → assigns s here ≡ Unknown → (b : Bool) → may_stand frames ls R.Unit ≡ b → (w ≡ W.Procedure) ⊎ (front_of_word w ≡ R.Procedure → ⊥) → MayGoOn s n ls (t ∷ mid)
  unfolding head_behind
  unknown_stands other ends stand e true u which =
      let ends_it = unknown_assigning s (place_of t) here e in
      let a : ends_assigned ≡ true = ap (λ b. may_assign b && is_ended (C.assigning s t w no_marks is (t ∷ mid))) e ∙ C.ended_is (C.assigning s t w no_marks is (t ∷ mid)) ends_it in
      assigned_stands u (assigned_completed s t w no_marks is mid a)
  unknown_stands other ends stand e false u (inr none) = absurd (cc (unit_stands frames ls (front_of_word w) stand none, u))
  unknown_stands other ends stand e false u (inl i) = worded_stands other stand (of_procedure i ends e)
    where
      of_procedure : w ≡ W.Procedure → word_here ≡ Err Ended → assigns s here ≡ Unknown → CompletedWord s here
      of_procedure i ends e = procedure_completed s t no_marks (is ∙ ap K.Name i) mid (sym (ap (λ v. head_behind s (t ∷ mid) (place_of t) v (record { tokens = mid; marks = no_marks })) i) ∙ ends) e

  word_stands : w ≢ W.Else → word_here ≡ Err Ended → (is_not_begun (assigns s here) || is_if w) ≡ true → may_stand frames ls (front_of_word w) ≡ true → (b : Beginning) → assigns s here ≡ b → MayGoOn s n ls (t ∷ mid)
  word_stands other ends may stand Differs e =
      worded_stands other stand (complete_worded s t w no_marks is mid (subst Open (sym ends) tt) e)
  word_stands other ends may stand Unknown e = unknown_stands other ends stand e (may_stand frames ls R.Unit) refl (procedure_word w)
  word_stands other ends may stand Begins e =
      let i : w ≡ W.If = is_if_word w (sym (ap (λ b. is_not_begun b || is_if w) e) ∙ may) in
      worded_stands other stand (complete_if s t w no_marks is mid i e (sym (if_behind s t w no_marks is mid [] (t ∷ mid) mid i) ∙ ends))

  word_part : (b : Bool) → ends_worded ≡ b → word_may_stand frames ls (word_if b w) ≡ true → MayGoOn s n ls (t ∷ mid)
  word_part false e h = absurd (cc h)
  word_part true e h =
      let may = both_first (is_not_begun (assigns s here) || is_if w) (is_ended word_here) e in
      let ends = is_ended_so word_here (both_second (is_not_begun (assigns s here) || is_if w) (is_ended word_here) e) in
      word_stands (ended_no_else e) ends may h (assigns s here) refl

  -- a head goes on as is said
  named_goes_on : may ≡ true → MayGoOn s n ls (t ∷ mid)
  named_goes_on e = by_assigned (ends_assigned && may_stand frames ls R.Unit) refl e
    where
      by_assigned : (b : Bool) → (ends_assigned && may_stand frames ls R.Unit) ≡ b → (b || word_may_stand frames ls (word_if ends_worded w)) ≡ true → MayGoOn s n ls (t ∷ mid)
      by_assigned true i e =
          assigned_stands (both_second ends_assigned (may_stand frames ls R.Unit) i) (assigned_completed s t w no_marks is mid (both_first ends_assigned (may_stand frames ls R.Unit) i))
      by_assigned false i e = word_part ends_worded refl e

-- ---- heads that are refused

-- a head isn't whole, and not left out; or it is an ELSE where none may stand
pub data Refused (s : List ℕ) (n : Nest) (ls : List T.Name) (c : Cursor) : Type 0 where
  stuck : head_from s c ≡ Err Stuck → Refused s n ls c
  ends : head_from s c ≡ Err Ended → Refused s n ls c
  stray : (h : Head) (rest : Cursor) → head_from s c ≡ Ok (h, rest) → is_stray_else n ls h ≡ true → Refused s n ls c

stray_is_else : (n : Nest) (ls : List T.Name) (h : Head) → is_stray_else n ls h ≡ true → is_else h ≡ true
stray_is_else n ls (Else p) e = refl
stray_is_else n ls _ e = absurd (cc e)

stray_same : (n : Nest) (ls : List T.Name) (h k : Head) → is_stray_else n ls h ≡ true → is_else k ≡ true → is_stray_else n ls k ≡ true
stray_same n ls (Else p) (Else q) e i = e
stray_same n ls (Else p) _ e i = absurd (cc i)
stray_same n ls _ k e i = absurd (cc e)

module _ (s : List ℕ) (n : Nest) (ls : List T.Name) (t : Token) (mid : List Token) (w : Word) (is : t.kind ≡ K.Name w) where
  abbrev first : Cursor
  first = record { tokens = t ∷ mid; marks = no_marks }

  stray_begins : (h : Head) (rest : Cursor) → head_from s first ≡ Ok (h, rest) → is_else h ≡ true → assigns s first ≢ Begins
  stray_begins h rest e i b =
      let a = assigning_is s (place_of t) first (h, rest) (sym (head_begun s t w no_marks is mid b) ∙ e) in
      cc (sym i ∙ ap is_else a.is)

  not_whole : Refused s n ls first → NotWhole s first w
  not_whole (Refused.stuck e) = NotWhole.stuck e
  not_whole (Refused.ends e) = NotWhole.ends e
  not_whole (Refused.stray h rest e is_stray) =
      let i = stray_is_else n ls h is_stray in
      let none = stray_begins h rest e i in
      let word = head_of_word (head_sound s first (h, rest) e).spelled refl is (λ a. none (assigns_complete s first a)) in
      NotWhole.is_else (else_word w (sym word.no_else ∙ i)) none

  else_is_whole : w ≡ W.Else → assigns s first ≢ Begins → (at : Missed) → head_from s first ≡ Err at → ⊥
  unfolding head_behind
  else_is_whole i none at e =
      let k = ap (λ v. head_behind s (t ∷ mid) (place_of t) v (record { tokens = mid; marks = no_marks })) i in
      cc (sym (head_worded s t w no_marks is mid none ∙ k) ∙ e)

  strays : Refused s n ls first → w ≡ W.Else → assigns s first ≢ Begins → (k : Head) → is_else k ≡ true → is_stray_else n ls k ≡ true
  strays (Refused.stuck e) i none k j = absurd (else_is_whole i none Stuck e)
  strays (Refused.ends e) i none k j = absurd (else_is_whole i none Ended e)
  strays (Refused.stray h rest e is_stray) i none k j = stray_same n ls h k is_stray j

  -- it goes on no other way
  named_ends : Refused s n ls first → may s n ls t mid w is ≡ false → ¬ MayGoOn s n ls (t ∷ mid)
  named_ends r e (more, h, rest, m, (g, stands)) =
      let x = goes_on s t w no_marks is mid more (h, record { tokens = rest; marks = m }) (not_whole r) (head_complete g) in
      cc (goes_may s n ls t mid w is more rest h m g stands (strays r) x, e)

  named_refused : Refused s n ls first → (b : Bool) → may s n ls t mid w is ≡ b → IsRefusedAt s n ls t mid (if b then end_of s else place_of t)
  named_refused r true e = inl (named_goes_on s n ls t mid w is e, refl)
  named_refused r false e = inr (named_ends r e, refl)

-- ---- what begins with no name

abbrev null_closed : Read Token → Read Head
null_closed q = q >>= λ u. Ok (Simple (T.Null (place_of u.0)), u.1)

module _ (s : List ℕ) (n : Nest) (ls : List T.Name) (t : Token) (mid : List Token) where
  -- the head that a token of some kind begins
  abbrev head_by : Kind → List Token → Read Head
  head_by k ts =
      let c : Cursor = record { tokens = t ∷ ts; marks = no_marks } in
      if is_terminal (K.Symbol S.Semicolon) k then null_from c else (word_of_kind t k (record { tokens = ts; marks = no_marks }) >>= λ w. worded s (assigns s c) (t ∷ ts) w)

  head_is : (k : Kind) (ts : List Token) → t.kind ≡ k → head_from s (record { tokens = t ∷ ts; marks = no_marks }) ≡ head_by k ts
  unfolding head_from word_from
  head_is k ts e = ap (λ u. head_by u ts) e

  semicolon_whole : t.kind ≡ K.Symbol S.Semicolon → null_from (record { tokens = t ∷ mid; marks = no_marks }) ≡ Ok (Simple (T.Null (place_of t)), record { tokens = mid; marks = no_marks })
  unfolding taken
  semicolon_whole e = ap (λ k. null_closed (if is_terminal (K.Symbol S.Semicolon) k then Ok (t, record { tokens = mid; marks = no_marks }) else Err Stuck)) e

  no_refusal : (x : Head × Cursor) → is_else x.0 ≡ false → head_from s (record { tokens = t ∷ mid; marks = no_marks }) ≡ Ok x → Refused s n ls (record { tokens = t ∷ mid; marks = no_marks }) → ⊥
  no_refusal x i e (Refused.stuck j) = cc (e, j)
  no_refusal x i e (Refused.ends j) = cc (e, j)
  no_refusal x i e (Refused.stray h rest j is_stray) =
      let k : x ≡ (h, rest) = cc (sym e ∙ j) in
      cc (i, ap (λ y. is_else y.0) k, stray_is_else n ls h is_stray)

  unnamed_ends : (k : Kind) → t.kind ≡ k → starts_name (Some k) ≡ false → Refused s n ls (record { tokens = t ∷ mid; marks = no_marks }) → ¬ MayGoOn s n ls (t ∷ mid)
  unnamed_ends (K.Name w) e i r a = cc i
  unnamed_ends (K.Symbol S.Semicolon) e i r a = no_refusal _ refl (head_is (K.Symbol S.Semicolon) mid e ∙ semicolon_whole e) r
  unnamed_ends (K.Number v) e i r (more, h, rest, m, (g, stands)) = cc (sym (head_is (K.Number v) (mid ++ more) e) ∙ head_complete g)
  unnamed_ends K.Text e i r (more, h, rest, m, (g, stands)) = cc (sym (head_is K.Text (mid ++ more) e) ∙ head_complete g)
  unnamed_ends (K.Bit v) e i r (more, h, rest, m, (g, stands)) = cc (sym (head_is (K.Bit v) (mid ++ more) e) ∙ head_complete g)
  unnamed_ends (K.Symbol y) e i r (more, h, rest, m, (g, stands)) = cc (sym (head_is (K.Symbol y) (mid ++ more) e) ∙ head_complete g)

  abbrev place_by : Kind → Place
  place_by k =
      if may_go_on (settled n.frames) ls (continued s (record { tokens = t ∷ mid; marks = no_marks }) t k (record { tokens = mid; marks = no_marks })) then end_of s else place_of t

  refused_by : (k : Kind) → t.kind ≡ k → Refused s n ls (record { tokens = t ∷ mid; marks = no_marks }) → IsRefusedAt s n ls t mid (place_by k)
  refused_by (K.Name w) e r = named_refused s n ls t mid w e r (may s n ls t mid w e) refl
  refused_by (K.Number v) e r = inr (unnamed_ends (K.Number v) e refl r, refl)
  refused_by K.Text e r = inr (unnamed_ends K.Text e refl r, refl)
  refused_by (K.Bit v) e r = inr (unnamed_ends (K.Bit v) e refl r, refl)
  refused_by (K.Symbol y) e r = inr (unnamed_ends (K.Symbol y) e refl r, refl)

  -- a refused head is refused where it must be
  pub refused_where : Refused s n ls (record { tokens = t ∷ mid; marks = no_marks }) → IsRefusedAt s n ls t mid (if may_go_on (settled n.frames) ls (continuations s (record { tokens = t ∷ mid; marks = no_marks })) then end_of s else place_of t)
  unfolding continuations
  refused_where r = refused_by t.kind refl r
