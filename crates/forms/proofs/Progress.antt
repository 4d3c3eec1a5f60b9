-- Forms that are put together go forward, or on, where their parts do.
use Rattle.std.proofs.Common.{◌≡◌, ℕ, Bool, Ok, Err, Result, arith}
use Rattle.forms.specs.Forms.{Form, Then, goes, Loop, done, turn, Branch, taken, left, From, Give, Lifted, well, Forward, Onward}
use Rattle.forms.proofs.Exactness.{apart}

pub onward_then : {A B E : Type 0} (F : Form A E) (G : A → Form B E) → Onward F → ((a : A) → Forward (G a)) → Onward (Then F G)
onward_then F G f g from to b (goes a mid _ h k) = let p = f from mid a h in let q = g a mid to b k in omega arith

pub onward_after : {A B E : Type 0} (F : Form A E) (G : A → Form B E) → Forward F → ((a : A) → Onward (G a)) → Onward (Then F G)
onward_after F G f g from to b (goes a mid _ h k) = let p = f from mid a h in let q = g a mid to b k in omega arith

pub forward_then : {A B E : Type 0} (F : Form A E) (G : A → Form B E) → Forward F → ((a : A) → Forward (G a)) → Forward (Then F G)
forward_then F G f g from to b (goes a mid _ h k) = let p = f from mid a h in let q = g a mid to b k in omega arith

pub forward_onward : {A E : Type 0} (F : Form A E) → Onward F → Forward F
forward_onward F f from to a h = let p = f from to a h in omega arith

pub onward_from : {A E : Type 0} (F : ℕ → Form A E) → ((start : ℕ) → Onward (F start)) → Onward (From F)
onward_from F f from to a h = f from from to a h.begun

pub forward_from : {A E : Type 0} (F : ℕ → Form A E) → ((start : ℕ) → Forward (F start)) → Forward (From F)
forward_from F f from to a h = f from from to a h.begun

pub forward_loop : {A E : Type 0} (more : ℕ → Bool) (Turn : A → Form A E) → ((a : A) → Forward (Turn a)) → (a : A) → Forward (Loop more Turn a)
forward_loop more Turn f a from to b (done _ _ h) = omega arith
forward_loop more Turn f a from to b (turn _ d _ mid _ h s l) = let p = f a from mid d s in let q = forward_loop more Turn f d mid to b l in omega arith

pub forward_branch : {A E : Type 0} (test : ℕ → Bool) (F G : Form A E) → Forward F → Forward G → Forward (Branch test F G)
forward_branch test F G f g from to a (taken t h) = f from to a h
forward_branch test F G f g from to a (left t h) = g from to a h

pub forward_give : {A E : Type 0} (x : Result A E) → Forward (Give x)
forward_give (Ok v) from to a h = let e = h.is in let q : to ≡ from = cc in omega arith
forward_give (Err e) from to a h = apart a to e h.is

pub forward_lifted : {A E D : Type 0} (up : E → D) (F : Form A E) → Forward F → Forward (Lifted up F)
forward_lifted up F f from to a (well _ _ h) = f from to a h

pub onward_lifted : {A E D : Type 0} (up : E → D) (F : Form A E) → Onward F → Onward (Lifted up F)
onward_lifted up F f from to a (well _ _ h) = f from to a h
