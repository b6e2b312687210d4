-- A nest behind a head weighs at most as much as the head more.
use Rattle.std.proofs.Common.{◌≡◌, ℕ, ◌+◌, ◌^◌, ◌<◌, ◌≤◌, List, [], ◌∷◌, ◌++◌, append-nil, Bool, true, false, Option, Some, None, refl, sym, ap, ◌∙◌, subst, arith}
use Rattle.std.specs.Prelude.{if◌then◌else◌}
use Rattle.pli_language.specs.declared.expr.Place.{Place}
use Rattle.pli_language.specs.Tree as T
use Rattle.pli_language.specs.Heads as H
use Rattle.pli_language.specs.Nesting as N
use Rattle.pli_language.specs.Nesting.{completed}
use Rattle.pli_headline.specs.FirstPath.{stmt_weight, stmt_line, items_weight, SmallLines}
use Rattle.pli_compile.proofs.EatingHeads.{head_weight, HeadLines}
use Rattle.pli_compile.proofs.Weighing.{list_weight, ListLines, weight_snoc, lines_snoc, weight_of_list, lines_of_list, opener_weight, nest_weight, NestLines, Leads, completed_keeps, settled_keeps, statement_leads, declaration_leads, else_leads, system_leads}

pub record KeepsNest (before behind : N.Nest) (k : ℕ) : Type 0 where
  pub weighs : nest_weight behind ≤ nest_weight before + k
  pub lines : NestLines before → NestLines behind

-- the nest that there is, if there is one, weighs at most so much more than what was open before
abbrev pub LeadsNest : N.Nest → Option N.Nest → ℕ → Type 0
LeadsNest before None k = Unit {0}
LeadsNest before (Some behind) k = KeepsNest before behind k

with_frames_leads : (before : N.Nest) (o : Option (List N.Frame)) (k : ℕ) → Leads before.frames o k → LeadsNest before (N.with_frames before.outer o) k
with_frames_leads before None k h = tt
with_frames_leads before (Some fs) k h = record { weighs = let w = h.weighs in omega (arith, w); lines = λ l. (l.0, h.lines l.1) }

-- what is open is settled first
settled_first : (before : N.Nest) (o : Option N.Nest) (k : ℕ) → LeadsNest (record { outer = before.outer; frames = N.settled before.frames }) o k → LeadsNest before o k
settled_first before None k h = tt
settled_first before (Some behind) k h =
    let s = settled_keeps before.frames in
    record { weighs = let v = s.weighs in let w = h.weighs in omega (arith, v, w); lines = λ l. h.lines (l.0, s.lines l.1) }

-- the front of a procedure, whose body is still empty
procedure_leads : (outer : List T.Item) (fs : List N.Frame) (h : T.ProcedureHead) → h.place.line < 2 ^ 31 → LeadsNest (record { outer = outer; frames = fs }) (N.with_procedure outer fs h) 0
procedure_leads outer [] h l = record { weighs = omega arith; lines = λ k. (k.0, ((l, tt), tt)) }
procedure_leads outer (N.InList o labels items pending ∷ fs) h l = opened (N.is_block o)
  where
    opened : (test : Bool) → LeadsNest (record { outer = outer; frames = N.InList o labels items pending ∷ fs }) (if test then Some (record { outer = outer; frames = N.InList (N.OfProcedure h) h.labels [] [] ∷ N.InList o labels items pending ∷ fs }) else None) 0
    opened true = record { weighs = omega arith; lines = λ k. (k.0, ((l, tt), k.1)) }
    opened false = tt
procedure_leads outer (N.ThenDue e p ∷ fs) h l = tt
procedure_leads outer (N.ThenWhole e u p ∷ fs) h l = tt
procedure_leads outer (N.ElseDue e u p ∷ fs) h l = tt
procedure_leads outer (N.UnitDue c p ∷ fs) h l = tt

labelled_leads : (outer : List T.Item) (fs : List N.Frame) (labels : List T.Name) (h : T.ProcedureHead) → h.place.line < 2 ^ 31 → LeadsNest (record { outer = outer; frames = fs }) (N.with_labelled_procedure outer fs labels h) 0
labelled_leads outer fs [] h l = tt
labelled_leads outer fs (n ∷ ns) h l = procedure_leads outer fs h l

-- a procedure that is whole, where its list was open
inner_leads : (outer : List T.Item) (h : T.ProcedureHead) (labels pending : List T.Name) (items : List T.Item) (body : T.Items) (fs : List N.Frame) → items_weight body ≡ list_weight items → (ListLines items → SmallLines body) → LeadsNest (record { outer = outer; frames = N.InList (N.OfProcedure h) labels items pending ∷ fs }) (N.with_inner_procedure outer fs (T.Procedure h body)) 0
inner_leads outer h labels pending items body [] w l =
    let e = weight_snoc outer (T.Procedure h body) in
    record { weighs = omega (arith, e, w); lines = λ k. (lines_snoc outer (T.Procedure h body) k.0 (k.1.0.0, l k.1.0.1), tt) }
inner_leads outer h labels pending items body (N.InList o names before behind ∷ fs) w l =
    let e = weight_snoc before (T.Procedure h body) in
    record {
      weighs = omega (arith, e, w);
      lines = λ k. (k.0, ((k.1.1.0.0, lines_snoc before (T.Procedure h body) k.1.1.0.1 (k.1.0.0, l k.1.0.1)), k.1.1.1));
    }
inner_leads outer h labels pending items body (N.ThenDue e p ∷ fs) w l = tt
inner_leads outer h labels pending items body (N.ThenWhole e u p ∷ fs) w l = tt
inner_leads outer h labels pending items body (N.ElseDue e u p ∷ fs) w l = tt
inner_leads outer h labels pending items body (N.UnitDue c p ∷ fs) w l = tt

-- a group or a block that is whole
group_leads : (outer : List T.Item) (o : N.Opener) (labels pending : List T.Name) (items : List T.Item) (x : T.Stmt) (fs : List N.Frame) → opener_weight o ≡ 1 → stmt_weight x ≡ 1 → stmt_line x ≡ 0 → LeadsNest (record { outer = outer; frames = N.InList o labels items pending ∷ fs }) (Some (record { outer = outer; frames = completed x fs })) 0
group_leads outer o labels pending items x fs a b c =
    let l : stmt_line x < 2 ^ 31 = omega (arith, c) in
    let k = completed_keeps x l fs in
    let v = k.weighs in
    record { weighs = omega (arith, v, a, b); lines = λ h. (h.0, k.lines h.1.1) }

ended_leads : (outer : List T.Item) (o : N.Opener) (labels pending : List T.Name) (items : List T.Item) (body : T.Items) (fs : List N.Frame) → items_weight body ≡ list_weight items → (ListLines items → SmallLines body) → LeadsNest (record { outer = outer; frames = N.InList o labels items pending ∷ fs }) (N.ended outer o body fs) 0
ended_leads outer (N.OfProcedure h) labels pending items body fs w l = inner_leads outer h labels pending items body fs w l
ended_leads outer (N.OfGroup p) labels pending items body fs w l = group_leads outer (N.OfGroup p) labels pending items (T.Do body p) fs refl refl refl
ended_leads outer (N.OfWhile e p) labels pending items body fs w l = group_leads outer (N.OfWhile e p) labels pending items (T.DoWhile e body p) fs refl refl refl
ended_leads outer (N.OfCount c p) labels pending items body fs w l = group_leads outer (N.OfCount c p) labels pending items (T.DoCount c body p) fs refl refl refl
ended_leads outer (N.OfBegin p) labels pending items body fs w l = group_leads outer (N.OfBegin p) labels pending items (T.Begin body p) fs refl refl refl

-- the labels of an END weigh nothing
end_weight : (items : List T.Item) (names : List T.Name) (p : Place) → list_weight (items ++ N.end_labels names p) ≡ list_weight items
end_weight items [] p = ap list_weight (append-nil items)
end_weight items (n ∷ ns) p = let e = weight_snoc items (T.EndLabels (n ∷ ns) p) in omega (arith, e)

end_lines : (items : List T.Item) (names : List T.Name) (p : Place) → ListLines items → ListLines (items ++ N.end_labels names p)
end_lines items [] p h = subst ListLines (sym (append-nil items)) h
end_lines items (n ∷ ns) p h = lines_snoc items (T.EndLabels (n ∷ ns) p) h tt

end_leads : (outer : List T.Item) (fs : List N.Frame) (names : List T.Name) (p : Place) → LeadsNest (record { outer = outer; frames = fs }) (N.with_end outer fs names p) 0
end_leads outer [] names p = tt
end_leads outer (N.InList o labels items pending ∷ fs) names p =
    let body : List T.Item = items ++ N.end_labels names p in
    ended_leads outer o labels pending items (N.items_of_list body) fs (weight_of_list body ∙ end_weight items names p) (λ h. lines_of_list body (end_lines items names p h))
end_leads outer (N.ThenDue e at ∷ fs) names p = tt
end_leads outer (N.ThenWhole e u at ∷ fs) names p = tt
end_leads outer (N.ElseDue e u at ∷ fs) names p = tt
end_leads outer (N.UnitDue c at ∷ fs) names p = tt

-- ---- heads

settled_frames : (before : N.Nest) (o : Option (List N.Frame)) (k : ℕ) → Leads (N.settled before.frames) o k → LeadsNest before (N.with_frames before.outer o) k
settled_frames before o k h =
    settled_first before (N.with_frames before.outer o) k (with_frames_leads (record { outer = before.outer; frames = N.settled before.frames }) o k h)

statement_entered : (before : N.Nest) (labels : List T.Name) (h : H.Head) → HeadLines h → LeadsNest before (N.with_frames before.outer (N.with_statement (N.settled before.frames) labels h)) (head_weight h)
statement_entered before labels h l =
    settled_frames before (N.with_statement (N.settled before.frames) labels h) (head_weight h) (statement_leads (N.settled before.frames) labels h l)

pub entered_leads : (before : N.Nest) (labels : List T.Name) (h : H.Head) → HeadLines h → LeadsNest before (N.entered before labels h) (head_weight h)
entered_leads before labels (H.ProcedureFront p parameters options) l =
    let head : T.ProcedureHead = record { labels = labels; place = p; parameters = parameters; options = options } in
    settled_first before (N.with_labelled_procedure before.outer (N.settled before.frames) labels head) 0 (labelled_leads before.outer (N.settled before.frames) labels head l)
entered_leads before labels (H.Declaring ds p) l =
    settled_frames before (N.with_declaration (N.settled before.frames) labels (T.Declare ds p)) (head_weight (H.Declaring ds p)) (declaration_leads (N.settled before.frames) labels (T.Declare ds p) tt)
entered_leads before labels (H.EndOf name p) l =
    settled_first before (N.with_end before.outer (N.settled before.frames) labels p) 0 (end_leads before.outer (N.settled before.frames) labels p)
entered_leads before labels (H.Else p) l = with_frames_leads before (N.with_else before.frames labels) 0 (else_leads before.frames labels)
entered_leads before labels (H.System p) l =
    settled_frames before (N.with_system (N.settled before.frames) labels) 0 (system_leads (N.settled before.frames) labels)
entered_leads before labels (H.Simple x) l = statement_entered before labels (H.Simple x) l
entered_leads before labels (H.IfThen e p) l = statement_entered before labels (H.IfThen e p) l
entered_leads before labels (H.DoGroup p) l = statement_entered before labels (H.DoGroup p) l
entered_leads before labels (H.DoWhileGroup e p) l = statement_entered before labels (H.DoWhileGroup e p) l
entered_leads before labels (H.DoCountGroup c p) l = statement_entered before labels (H.DoCountGroup c p) l
entered_leads before labels (H.BeginBlock p) l = statement_entered before labels (H.BeginBlock p) l
entered_leads before labels (H.On c p) l = statement_entered before labels (H.On c p) l
