-- Forms that are put together from exact forms are exact.
use Rattle.std.proofs.Common.{◌≡◌, ℕ, Bool, true, false, Result, sym, refl, ◌∙◌, subst, arith}
use Rattle.forms.specs.Forms.{Outcome, got, bad, Form, Exact, Then, goes, stops, Loop, done, turn, breaks, Branch, taken, left, Just, From, Give, Lifted, well, fault}

pub apart : {X A E : Type 0} (a : A) (i : ℕ) (e : E) → got a i ≡ bad e → X
apart a i e p = let z : ◌≡◌ {A = ℕ} 0 1 = cc in absurd (omega arith)

pub both : {X : Type 0} (b : Bool) → b ≡ true → b ≡ false → X
both b p q = let z : true ≡ false = sym p ∙ q in let y : ◌≡◌ {A = ℕ} 0 1 = cc in absurd (omega arith)

-- at the same value and place the same
along : {A B E : Type 0} (G : A → Form B E) (a b : A) (i j : ℕ) (o : Outcome B E) → ◌≡◌ {A = Outcome A E} (got a i) (got b j) → G b j o → G a i o
along G a b i j o p g =
    let q : b ≡ a = cc in
    let r : j ≡ i = cc in
    subst (λ (x : ℕ). G a x o) r (subst (λ (x : _). G x j o) q g)

pub exact_then : {A B E : Type 0} (F : Form A E) (G : A → Form B E) → Exact F → ((a : A) → Exact (G a)) → Exact (Then F G)
exact_then F G f g from o p (goes a mid _ h k) (goes b mid' _ h' k') =
    g a mid o p k (along G a b mid mid' p (f from _ _ h h') k')
exact_then F G f g from o p (goes a mid _ h k) (stops e h') = apart a mid e (f from _ _ h h')
exact_then F G f g from o p (stops e h) (goes b mid' _ h' k') = apart b mid' e (f from _ _ h' h)
exact_then F G f g from o p (stops e h) (stops e' h') = let q = f from _ _ h h' in cc

pub exact_loop : {A E : Type 0} (more : ℕ → Bool) (Turn : A → Form A E) → ((a : A) → Exact (Turn a)) → (a : A) → Exact (Loop more Turn a)
exact_loop more Turn f a from o p (done _ _ h) (done _ _ h') = refl
exact_loop more Turn f a from o p (done _ _ h) (turn _ _ _ _ _ h' s' l') = both _ h' h
exact_loop more Turn f a from o p (done _ _ h) (breaks _ _ _ h' s') = both _ h' h
exact_loop more Turn f a from o p (turn _ _ _ _ _ h s l) (done _ _ h') = both _ h h'
exact_loop more Turn f a from o p (turn _ b _ mid _ h s l) (turn _ b' _ mid' _ h' s' l') =
    exact_loop more Turn f b mid o p l (along (Loop more Turn) b b' mid mid' p (f a from _ _ s s') l')
exact_loop more Turn f a from o p (turn _ b _ mid _ h s l) (breaks _ _ e h' s') = apart b mid e (f a from _ _ s s')
exact_loop more Turn f a from o p (breaks _ _ _ h s) (done _ _ h') = both _ h h'
exact_loop more Turn f a from o p (breaks _ _ e h s) (turn _ b _ mid _ h' s' l') = apart b mid e (f a from _ _ s' s)
exact_loop more Turn f a from o p (breaks _ _ e h s) (breaks _ _ e' h' s') = let q = f a from _ _ s s' in cc

pub exact_branch : {A E : Type 0} (test : ℕ → Bool) (F G : Form A E) → Exact F → Exact G → Exact (Branch test F G)
exact_branch test F G f g from o p (taken t h) (taken t' k) = f from o p h k
exact_branch test F G f g from o p (taken t h) (left t' k) = both _ t t'
exact_branch test F G f g from o p (left t h) (taken t' k) = both _ t' t
exact_branch test F G f g from o p (left t h) (left t' k) = g from o p h k

pub exact_just : {A E : Type 0} (f : ℕ → Outcome A E) → Exact (Just f)
exact_just f from o p h k = h.is ∙ sym k.is

pub exact_from : {A E : Type 0} (F : ℕ → Form A E) → ((start : ℕ) → Exact (F start)) → Exact (From F)
exact_from F f from o p h k = f from from o p h.begun k.begun

pub exact_give : {A E : Type 0} (x : Result A E) → Exact (Give x)
exact_give x from o p h k = h.is ∙ sym k.is

pub exact_lifted : {A E D : Type 0} (up : E → D) (F : Form A E) → Exact F → Exact (Lifted up F)
exact_lifted up F f from o p (well a to h) (well a' to' k) = let q = f from _ _ h k in cc
exact_lifted up F f from o p (well a to h) (fault e k) = apart a to e (f from _ _ h k)
exact_lifted up F f from o p (fault e h) (well a to k) = apart a to e (f from _ _ k h)
exact_lifted up F f from o p (fault e h) (fault e' k) = let q = f from _ _ h k in cc
