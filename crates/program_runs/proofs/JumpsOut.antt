-- Where jumps and returns go on: later, since fewer acts, with a debt that is paid back, and at which height.
use Rattle.std.proofs.Common.{◌≡◌, ℕ, suc, ◌+◌, ◌<◌, ◌≤◌, ◌⊎◌, inl, inr, List, [], ◌∷◌, length, Bool, Option}
use Rattle.std.proofs.Common.{true, false, refl, sym, ap, ◌∙◌, subst, arith}
use Rattle.rv_meaning.specs.declared.instr.Instr.{Instr}
use Rattle.pli_meaning.specs.BasicValues.{BasicValue}
use Rattle.pli_meaning.specs.Control.{Label}
use Rattle.pli_meaning.specs.StorageState.{State}
use Rattle.pli_serving.specs.ServiceState.{Services}
use Rattle.image_runs.specs.Runs.{Whole}
use Rattle.activation_relation.specs.Landing.{closed, either, is_begin}
use Rattle.activation_relation.specs.Layers.{Point}
use Rattle.activation_relation.specs.Points.{Surroundings}
use Rattle.run_steps.specs.Engine.{Base}
use Rattle.run_steps.specs.Owing.{Between}
use Rattle.run_steps.specs.Reach.{Family, Reach, reached}
use Rattle.run_steps.proofs.Owing.{repaid}
use Rattle.run_steps.proofs.Reach.{reach_then}
use Rattle.block_runs.specs.Bodies.{Called, AtEnd}
use Rattle.program_runs.specs.Statements.{AreOuter, Block, IsOuter, JumpsOut, JumpsTo, LandsAt, Outer, ReturnsOut}
use Rattle.program_runs.specs.Statements.{ReturnsTo, outer_block, outer_call}

-- ---- later

lands_later :
    {k : Block} {labels : List Label} {acts : ℕ} {i i' : ℕ} {f : Family} {v v' : Services}
    {Q : Base → Whole → Type 0} {height : ℕ} {label : Label} {s : State} (r : Reach k.call.code i f v i' v' Q) →
    LandsAt k labels acts i' (reached r) v' height label s → LandsAt k labels acts i f v height label s
lands_later r o =
    record {
      own = o.own;
      carried = o.carried;
      point = o.point;
      numbers = o.numbers;
      among = o.among;
      more = o.more;
      state = o.state;
      index = o.index;
      place = o.place;
      reach = reach_then r o.reach;
    }

outs_later :
    (w : Surroundings) {code : List Instr} (os : List Outer) (acts : ℕ) {i i' : ℕ} {f : Family} {v v' : Services}
    {Q : Base → Whole → Type 0} (height : ℕ) (label : Label) (s : State) (r : Reach code i f v i' v' Q) →
    JumpsOut w code os acts i' (reached r) v' height label s → JumpsOut w code os acts i f v height label s
outs_later w [] acts height label s r o = absurd o
outs_later w {code} (o ∷ os) acts height label s r (inl here) =
    inl (lands_later {k = outer_block w code o os} r here)
outs_later w (o ∷ os) acts height label s r (inr out) = inr (outs_later w os acts height label (closed s) r out)

pub jumps_later :
    {k : Block} {labels : List Label} {acts : ℕ} {i i' : ℕ} {f : Family} {v v' : Services}
    {Q : Base → Whole → Type 0} {height : ℕ} {label : Label} {s : State} (r : Reach k.call.code i f v i' v' Q) →
    JumpsTo k labels acts i' (reached r) v' height label s → JumpsTo k labels acts i f v height label s
jumps_later {k} {labels} {acts} {i} {i'} {f} {v} {v'} {height = height} {label = label} {s = s} r o =
    record { to = by o.to }
  where
    by :
        LandsAt k labels acts i' (reached r) v' height label s
        ⊎ JumpsOut k.call.surroundings k.call.code k.outers acts i' (reached r) v' height label (closed s) →
        LandsAt k labels acts i f v height label s
        ⊎ JumpsOut k.call.surroundings k.call.code k.outers acts i f v height label (closed s)
    by (inl here) = inl (lands_later r here)
    by (inr out) = inr (outs_later k.call.surroundings k.outers acts height label (closed s) r out)

pub end_later :
    {k : Called} {left' : ℕ} {i i' : ℕ} {f : Family} {v v' : Services} {Q : Base → Whole → Type 0}
    {x : Option BasicValue} {s : State} (r : Reach k.code i f v i' v' Q) → AtEnd k left' i' (reached r) v' x s →
    AtEnd k left' i f v x s
end_later r o =
    record {
      point = o.point;
      after = o.after;
      activation = o.activation;
      resumes = o.resumes;
      image = o.image;
      remains = o.remains;
      few = o.few;
      others = o.others;
      state = o.state;
      given = o.given;
      result = o.result;
      reach = reach_then r o.reach;
    }

either_map : {A B A' B' : Type 0} (q : Bool) → (A → A') → (B → B') → either q A B → either q A' B'
either_map true f g x = f x
either_map false f g x = g x

outs_returned :
    (w : Surroundings) {code : List Instr} (os : List Outer) (left' : ℕ) {i i' : ℕ} {f : Family} {v v' : Services}
    {Q : Base → Whole → Type 0} (x : Option BasicValue) (s : State) (r : Reach code i f v i' v' Q) →
    ReturnsOut w code os left' i' (reached r) v' x s → ReturnsOut w code os left' i f v x s
outs_returned w [] left' x s r h = absurd h
outs_returned w {code} (o ∷ os) left' x s r h =
    either_map (is_begin o.beginning.layer.kind) (λ out. outs_returned w os left' x (closed s) r out)
    (λ end. end_later {k = outer_call w code o} r end) h

pub returns_later :
    {k : Block} {left' : ℕ} {i i' : ℕ} {f : Family} {v v' : Services} {Q : Base → Whole → Type 0}
    {x : Option BasicValue} {s : State} (r : Reach k.call.code i f v i' v' Q) →
    ReturnsTo k left' i' (reached r) v' x s → ReturnsTo k left' i f v x s
returns_later {k} {left'} {x = x} {s = s} r o =
    record {
      to = either_map (is_begin k.call.beginning.layer.kind)
          (λ out. outs_returned k.call.surroundings k.outers left' x (closed s) r out) (λ end. end_later r end) o.to;
    }

-- the end of the block's own procedure
pub own_end :
    {k : Block} {left' c : ℕ} {f : Family} {v : Services} {x : Option BasicValue} {s : State} →
    is_begin k.call.beginning.layer.kind ≡ false → AtEnd k.call left' c f v x s → ReturnsTo k left' c f v x s
own_end {k} {left'} {c} {f} {v} {x} {s} e end =
    record {
      to = subst (λ q. either q
          (ReturnsOut k.call.surroundings k.call.code k.outers left' c f v x (closed s))
          (AtEnd k.call left' c f v x s)) (sym e) end;
    }

-- ---- since fewer acts

pub lands_since :
    {k : Block} {labels : List Label} {acts more c : ℕ} {f : Family} {v : Services} {height : ℕ} {label : Label}
    {s : State} → acts ≤ more → LandsAt k labels more c f v height label s → LandsAt k labels acts c f v height label s
lands_since few o =
    let more = o.more in
    record {
      own = o.own;
      carried = o.carried;
      point = o.point;
      numbers = o.numbers;
      among = o.among;
      more = omega (arith, few, more);
      state = o.state;
      index = o.index;
      place = o.place;
      reach = o.reach;
    }

pub outs_since :
    (w : Surroundings) (code : List Instr) (os : List Outer) (acts more c : ℕ) (f : Family) (v : Services)
    (height : ℕ) (label : Label) (s : State) → acts ≤ more → JumpsOut w code os more c f v height label s →
    JumpsOut w code os acts c f v height label s
outs_since w code [] acts more c f v height label s few h = absurd h
outs_since w code (o ∷ os) acts more c f v height label s few (inl here) = inl (lands_since few here)
outs_since w code (o ∷ os) acts more c f v height label s few (inr out) =
    inr (outs_since w code os acts more c f v height label (closed s) few out)

pub jumps_since :
    {k : Block} {labels : List Label} {acts more c : ℕ} {f : Family} {v : Services} {height : ℕ} {label : Label}
    {s : State} → acts ≤ more → JumpsTo k labels more c f v height label s → JumpsTo k labels acts c f v height label s
jumps_since {k} {labels} {acts} {more} {c} {f} {v} {height} {label} {s} few o = record { to = by o.to }
  where
    by :
        LandsAt k labels more c f v height label s
        ⊎ JumpsOut k.call.surroundings k.call.code k.outers more c f v height label (closed s) →
        LandsAt k labels acts c f v height label s
        ⊎ JumpsOut k.call.surroundings k.call.code k.outers acts c f v height label (closed s)
    by (inl here) = inl (lands_since few here)
    by (inr out) =
        inr (outs_since k.call.surroundings k.call.code k.outers acts more c f v height label (closed s) few out)

-- ---- a landing is paid back

lands_repaid :
    {k : Block} {labels : List Label} {acts c i0 : ℕ} {f f0 : Family} {v v0 : Services} {height : ℕ}
    {label : Label} {s : State} (debt : ℕ) → Between k.call.code (i0 + debt) f0 v0 c f v →
    LandsAt k labels acts c f v height label s → LandsAt k labels acts i0 f0 v0 height label s
lands_repaid debt from o =
    record {
      own = o.own;
      carried = o.carried;
      point = o.point;
      numbers = o.numbers;
      among = o.among;
      more = o.more;
      state = o.state;
      index = o.index;
      place = o.place;
      reach = repaid debt 0 (omega arith) o.reach from;
    }

pub outs_repaid :
    (w : Surroundings) {code : List Instr} (os : List Outer) (acts i0 : ℕ) {c : ℕ} {f f0 : Family} {v v0 : Services}
    (height : ℕ) (label : Label) (s : State) (debt : ℕ) → Between code (i0 + debt) f0 v0 c f v →
    JumpsOut w code os acts c f v height label s → JumpsOut w code os acts i0 f0 v0 height label s
outs_repaid w [] acts i0 height label s debt from h = absurd h
outs_repaid w {code} (o ∷ os) acts i0 height label s debt from (inl here) =
    inl (lands_repaid {k = outer_block w code o os} debt from here)
outs_repaid w (o ∷ os) acts i0 height label s debt from (inr out) =
    inr (outs_repaid w os acts i0 height label (closed s) debt from out)

pub jumps_repaid :
    {k : Block} {labels : List Label} {acts c i0 : ℕ} {f f0 : Family} {v v0 : Services} {height : ℕ}
    {label : Label} {s : State} (debt : ℕ) → Between k.call.code (i0 + debt) f0 v0 c f v →
    JumpsTo k labels acts c f v height label s → JumpsTo k labels acts i0 f0 v0 height label s
jumps_repaid {k} {labels} {acts} {c} {i0} {f} {f0} {v} {v0} {height} {label} {s} debt from o = record { to = by o.to }
  where
    by :
        LandsAt k labels acts c f v height label s
        ⊎ JumpsOut k.call.surroundings k.call.code k.outers acts c f v height label (closed s) →
        LandsAt k labels acts i0 f0 v0 height label s
        ⊎ JumpsOut k.call.surroundings k.call.code k.outers acts i0 f0 v0 height label (closed s)
    by (inl here) = inl (lands_repaid debt from here)
    by (inr out) = inr (outs_repaid k.call.surroundings k.outers acts i0 height label (closed s) debt from out)

end_repaid :
    {k : Called} {left' c i0 : ℕ} {f f0 : Family} {v v0 : Services} {x : Option BasicValue} {s : State} (debt : ℕ) →
    Between k.code (i0 + debt) f0 v0 c f v → AtEnd k left' c f v x s → AtEnd k left' i0 f0 v0 x s
end_repaid {left' = left'} debt from o =
    record {
      point = o.point;
      after = o.after;
      activation = o.activation;
      resumes = o.resumes;
      image = o.image;
      remains = o.remains;
      few = o.few;
      others = o.others;
      state = o.state;
      given = o.given;
      result = o.result;
      reach = repaid debt left' (omega arith) o.reach from;
    }

outs_returned_repaid :
    (w : Surroundings) {code : List Instr} (os : List Outer) (left' i0 : ℕ) {c : ℕ} {f f0 : Family} {v v0 : Services}
    (x : Option BasicValue) (s : State) (debt : ℕ) → Between code (i0 + debt) f0 v0 c f v →
    ReturnsOut w code os left' c f v x s → ReturnsOut w code os left' i0 f0 v0 x s
outs_returned_repaid w [] left' i0 x s debt from h = absurd h
outs_returned_repaid w {code} (o ∷ os) left' i0 x s debt from h =
    either_map (is_begin o.beginning.layer.kind)
    (λ out. outs_returned_repaid w os left' i0 x (closed s) debt from out)
    (λ end. end_repaid {k = outer_call w code o} debt from end) h

pub returns_repaid :
    {k : Block} {left' c i0 : ℕ} {f f0 : Family} {v v0 : Services} {x : Option BasicValue} {s : State} (debt : ℕ) →
    Between k.call.code (i0 + debt) f0 v0 c f v → ReturnsTo k left' c f v x s → ReturnsTo k left' i0 f0 v0 x s
returns_repaid {k} {left'} {i0 = i0} {x = x} {s = s} debt from o =
    record {
      to = either_map (is_begin k.call.beginning.layer.kind)
          (λ out. outs_returned_repaid k.call.surroundings k.outers left' i0 x (closed s) debt from out)
          (λ end. end_repaid debt from end) o.to;
    }

-- ---- blocks further out are lower

pub outer_height :
    {w : Surroundings} {code : List Instr} {o : Outer} {p : Point} (h : IsOuter w code o p) →
    length p.state.activations ≡ suc (length o.point.state.activations)
outer_height h = ap (λ as'. length as') (h.among.later.activations ∙ h.resumes.activations)

pub outs_low :
    (w : Surroundings) (code : List Instr) (os : List Outer) (p : Point) (acts c : ℕ) (f : Family) (v : Services)
    (height : ℕ) (label : Label) (s : State) → AreOuter w code p os → JumpsOut w code os acts c f v height label s →
    height ≤ length p.state.activations
outs_low w code [] p acts c f v height label s are h = absurd h
outs_low w code (o ∷ os) p acts c f v height label s are (inl here) =
    let own = here.own in
    let many = outer_height are.0 in
    omega (arith, own, many)
outs_low w code (o ∷ os) p acts c f v height label s are (inr out) =
    let low = outs_low w code os o.point acts c f v height label (closed s) are.1 out in
    let many = outer_height are.0 in
    omega (arith, low, many)

-- where no list is being carried out and no block further out is known, there is none
pub no_jump :
    {X : Type 0} {k : Block} {acts c : ℕ} {f : Family} {v : Services} {height : ℕ} {label : Label} {s : State} →
    k.outers ≡ [] → JumpsTo k [] acts c f v height label s → X
no_jump {X} {k} {acts} {c} {f} {v} {height} {label} {s} none o = by o.to
  where
    by :
        LandsAt k [] acts c f v height label s
        ⊎ JumpsOut k.call.surroundings k.call.code k.outers acts c f v height label (closed s) → X
    by (inl here) = absurd (cc here.carried)
    by (inr out) =
        absurd (subst (λ os. JumpsOut k.call.surroundings k.call.code os acts c f v height label (closed s)) none out)
