-- How the steps of a reader are put together: what a function that reads owes at each of its exits.
use Rattle.std.proofs.Common.{◌≡◌, ℕ, ◌-◌, ◌<◌, ◌≤◌, Bool, true, false, List, length, IsErrAnd, Ok, Err, Result, refl, ap, ◌∙◌, subst, arith}
use Rattle.std.proofs.lemmas.Result.{err_from_is_err_and}
use Rattle.forms.specs.Forms.{Outcome, got, bad, Form, Then, goes, stops, Loop, done, turn, breaks, Branch, taken, left, Just, From, Give, Lifted, well, fault, outcome, Forward}
use Rattle.text.specs.declared.reader.Reader.{Reader}
use Rattle.text.specs.Reading.{Step, told, seen}

-- one step after another
pub step_goes : {A B E : Type 0} (F : List ℕ → Form A E) (G : List ℕ → A → Form B E) (r s u : Reader) (a : A) (x : Result B E) → Step F r s (Ok a) → Step (λ t. G t a) s u x → Step (λ t. Then (F t) (G t)) r u x
step_goes F G r s u a x f g =
    record { same = g.same ∙ f.same; reads = goes a s.at (outcome x u.at) f.reads (subst (λ (t : List ℕ). G t a s.at (outcome x u.at)) f.same g.reads) }

-- a step that went wrong, passed on by `?`
pub step_stops : {A B E : Type 0} (F : List ℕ → Form A E) (G : List ℕ → A → Form B E) (r s : Reader) (e : E) (x : Result B E) → Step F r s (Err e) → x ≡ Err e → Step (λ t. Then (F t) (G t)) r s x
step_stops F G r s e x f q = record { same = f.same; reads = rw q (stops e f.reads) }

-- what the exit of a `?` returns, also where the caller looks at it by `told` or `seen`
pub err_is : {A E : Type 0} (x : Result A E) (e : E) → IsErrAnd x (λ y. y ≡ e) → x ≡ Err e
err_is x e h = let p = err_from_is_err_and x h in p.1 ∙ ap Err p.2

pub told_err : {A B E : Type 0} (q : B) (x : Result A E) (e : E) → IsErrAnd x (λ y. y ≡ e) → told q x ≡ Err e
told_err q x e h = ap (told q) (err_is x e h)

pub seen_err : {A B E : Type 0} (f : A → B) (x : Result A E) (e : E) → IsErrAnd x (λ y. y ≡ e) → seen f x ≡ Err e
seen_err f x e h = ap (seen f) (err_is x e h)

-- what is computed where the reader stands
pub step_just : {A E : Type 0} (f : List ℕ → ℕ → Outcome A E) (s : Reader) (x : Result A E) → outcome x s.at ≡ f s.text.now s.at → Step (λ t. Just (f t)) s s x
step_just f s x h = record { same = refl; reads = record { is = h } }

pub step_give : {A E : Type 0} (y : Result A E) (s : Reader) (x : Result A E) → x ≡ y → Step (λ t. Give y) s s x
step_give y s x h = record { same = refl; reads = record { is = ap (λ (z : Result _ _). outcome z s.at) h } }

pub step_from : {A E : Type 0} (F : List ℕ → ℕ → Form A E) (r s : Reader) (x : Result A E) → Step (λ t. F t r.at) r s x → Step (λ t. From (F t)) r s x
step_from F r s x h = record { same = h.same; reads = record { begun = h.reads } }

pub step_begun : {A E : Type 0} (F : List ℕ → ℕ → Form A E) (r s : Reader) (x : Result A E) → Step (λ t. From (F t)) r s x → Step (λ t. F t r.at) r s x
step_begun F r s x h = record { same = h.same; reads = h.reads.begun }

-- a step of the layer below
pub step_well : {A E D : Type 0} (up : E → D) (F : List ℕ → Form A E) (r s : Reader) (a : A) → Step F r s (Ok a) → Step (λ t. Lifted up (F t)) r s (Ok a)
step_well up F r s a h = record { same = h.same; reads = well a s.at h.reads }

pub step_fault : {A E D : Type 0} (up : E → D) (F : List ℕ → Form A E) (r s : Reader) (e : E) → Step F r s (Err e) → Step (λ t. Lifted up (F t)) r s (Err (up e))
step_fault up F r s e h = record { same = h.same; reads = fault e h.reads }

-- one of two ways
pub step_taken : {A E : Type 0} (test : List ℕ → ℕ → Bool) (F G : List ℕ → Form A E) (r s : Reader) (x : Result A E) → test r.text.now r.at ≡ true → Step F r s x → Step (λ t. Branch (test t) (F t) (G t)) r s x
step_taken test F G r s x t h = record { same = h.same; reads = taken t h.reads }

pub step_left : {A E : Type 0} (test : List ℕ → ℕ → Bool) (F G : List ℕ → Form A E) (r s : Reader) (x : Result A E) → test r.text.now r.at ≡ false → Step G r s x → Step (λ t. Branch (test t) (F t) (G t)) r s x
step_left test F G r s x t h = record { same = h.same; reads = left t h.reads }

-- the reader did not go back
pub step_forward : {A E : Type 0} (F : List ℕ → Form A E) (r s : Reader) (a : A) → ((t : List ℕ) → Forward (F t)) → Step F r s (Ok a) → r.at ≤ s.at
step_forward F r s a f h = f r.text.now r.at s.at a h.reads

-- a loop on its way: from r with a on, it has come to s with b
pub record Going {A E : Type 0} (more : List ℕ → ℕ → Bool) (F : List ℕ → A → Form A E) (r : Reader) (a : A) (s : Reader) (b : A) : Type 0 where
  pub same : s.text.now ≡ r.text.now
  pub rest : (o : Outcome A E) → Loop (more r.text.now) (F r.text.now) b s.at o → Loop (more r.text.now) (F r.text.now) a r.at o

pub going_none : {A E : Type 0} (more : List ℕ → ℕ → Bool) (F : List ℕ → A → Form A E) (r : Reader) (a : A) → Going more F r a r a
going_none more F r a = record { same = refl; rest = λ o h. h }

module _ {A E : Type 0} (more : List ℕ → ℕ → Bool) (F : List ℕ → A → Form A E) (r : Reader) (a : A) (s : Reader) (b : A) (g : Going more F r a s b) where
  pub going_more : (u : Reader) (d : A) → more s.text.now s.at ≡ true → Step (λ t. F t b) s u (Ok d) → Going more F r a u d
  going_more u d m f =
      record { same = f.same ∙ g.same; rest = λ o h. g.rest o (turn b d s.at u.at o (subst (λ (t : List ℕ). more t s.at ≡ true) g.same m) (subst (λ (t : List ℕ). F t b s.at (got d u.at)) g.same f.reads) h) }

  pub going_done : more s.text.now s.at ≡ false → Step (λ t. Loop (more t) (F t) a) r s (Ok b)
  going_done m = record { same = g.same; reads = g.rest (got b s.at) (done b s.at (subst (λ (t : List ℕ). more t s.at ≡ false) g.same m)) }

  pub going_stops : (u : Reader) (e : E) (x : Result A E) → more s.text.now s.at ≡ true → Step (λ t. F t b) s u (Err e) → x ≡ Err e → Step (λ t. Loop (more t) (F t) a) r u x
  going_stops u e x m f q =
      record { same = f.same ∙ g.same; reads = rw q (g.rest (bad e) (breaks b s.at e (subst (λ (t : List ℕ). more t s.at ≡ true) g.same m) (subst (λ (t : List ℕ). F t b s.at (bad e)) g.same f.reads))) }

  -- each turn that goes on leaves less of the text
  pub going_less : (u : Reader) (d : A) → s.at < u.at → Step (λ t. F t b) s u (Ok d) → length r.text.now - u.at < length r.text.now - s.at
  going_less u d p f =
      let q = ap length (f.same ∙ g.same) in
      let i : u.at ≤ length u.text.now = u.inside in
      omega arith
