-- Forms that are put together have an outcome from each place where their parts have one; a loop, where each of its
-- turns goes on.
use Rattle.std.proofs.Common.{◌≡◌, ℕ, zero, suc, ◌-◌, ◌<◌, ◌≤◌, Bool, true, false, Ok, Err, Result, refl, arith}
use Rattle.forms.specs.Forms.{Outcome, got, bad, Form, Then, goes, stops, Loop, done, turn, breaks, Branch, taken, left, Just, From, Give, Lifted, well, fault, Inside, Total}

pub total_then : {A B E : Type 0} (len : ℕ) (F : Form A E) (G : A → Form B E) → Total len F → ((a : A) → Total len (G a)) → Total len (Then F G)
total_then len F G f g from le = by (f from le)
  where
    by : (o : Outcome _ _) × F from o × Inside len o → (o : Outcome _ _) × Then F G from o × Inside len o
    by (got a mid, h, i) = let k = g a mid i in (k.0, goes a mid k.0 h k.1, k.2)
    by (bad e, h, i) = (bad e, stops e h, tt)

module _ {A E : Type 0} (len : ℕ) (more : ℕ → Bool) (Turn : A → Form A E) (f : (a : A) → Total len (Turn a)) (on : (a b : A) (from to : ℕ) → more from ≡ true → Turn a from (got b to) → from < to) where
  one : (a : A) (from : ℕ) → from ≤ len → ((b : A) (mid : ℕ) → mid ≤ len → from < mid → (o : Outcome A E) × Loop more Turn b mid o × Inside len o) → (b : Bool) → more from ≡ b → (o : Outcome A E) × Turn a from o × Inside len o → (o : Outcome A E) × Loop more Turn a from o × Inside len o
  one a from le rest false e s = (got a from, done a from e, le)
  one a from le rest true e (got b mid, s, i) = let k = rest b mid i (on a b from mid e s) in (k.0, turn a b from mid k.0 e s k.1, k.2)
  one a from le rest true e (bad x, s, i) = (bad x, breaks a from x e s, tt)

  go : (fuel : ℕ) (a : A) (from : ℕ) → from ≤ len → len - from < fuel → (o : Outcome A E) × Loop more Turn a from o × Inside len o
  go zero a from le h = absurd (omega arith)
  go (suc fuel) a from le h = one a from le (λ b mid i p. go fuel b mid i (omega arith)) (more from) refl (f a from le)

  pub total_loop : (a : A) → Total len (Loop more Turn a)
  total_loop a from le = go (suc (len - from)) a from le (omega arith)

pub total_branch : {A E : Type 0} (len : ℕ) (test : ℕ → Bool) (F G : Form A E) → Total len F → Total len G → Total len (Branch test F G)
total_branch len test F G f g from le = by (test from) refl (f from le) (g from le)
  where
    by : (b : Bool) → test from ≡ b → (o : Outcome _ _) × F from o × Inside len o → (o : Outcome _ _) × G from o × Inside len o → (o : Outcome _ _) × Branch test F G from o × Inside len o
    by true e h k = (h.0, taken e h.1, h.2)
    by false e h k = (k.0, left e k.1, k.2)

pub total_from : {A E : Type 0} (len : ℕ) (F : ℕ → Form A E) → ((start : ℕ) → Total len (F start)) → Total len (From F)
total_from len F f from le = let k = f from from le in (k.0, record { begun = k.1 }, k.2)

pub total_just : {A E : Type 0} (len : ℕ) (f : ℕ → Outcome A E) → ((from : ℕ) → from ≤ len → Inside len (f from)) → Total len (Just f)
total_just len f h from le = (f from, record { is = refl }, h from le)

pub total_give : {A E : Type 0} (len : ℕ) (x : Result A E) → Total len (Give x)
total_give len (Ok v) from le = (got v from, record { is = refl }, le)
total_give len (Err e) from le = (bad e, record { is = refl }, tt)

pub total_lifted : {A E D : Type 0} (len : ℕ) (up : E → D) (F : Form A E) → Total len F → Total len (Lifted up F)
total_lifted len up F f from le = by (f from le)
  where
    by : (o : Outcome _ _) × F from o × Inside len o → (o : Outcome _ _) × Lifted up F from o × Inside len o
    by (got a mid, h, i) = (got a mid, well a mid h, i)
    by (bad e, h, i) = (bad (up e), fault e h, tt)
