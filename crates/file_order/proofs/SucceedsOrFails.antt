-- What a call that succeeds or fails is known by.
use Rattle.std.proofs.Common.{Result, Ok, Err, OnOk, OnErr, IfErr}

pub ok_then : {T E P Q : Type 0} (r : Result T E) → OnOk r P → (P → Q) → OnOk r Q
ok_then (Ok x) p f = f p
ok_then (Err e) p f = tt

pub ok_both : {T E P Q R : Type 0} (r : Result T E) → OnOk r P → OnOk r Q → (P → Q → R) → OnOk r R
ok_both (Ok x) p q f = f p q
ok_both (Err e) p q f = tt

-- what a call that failed is known by
pub err_then : {T E P Q : Type 0} (r : Result T E) → OnErr r P → (P → Q) → OnErr r Q
err_then (Ok x) p f = tt
err_then (Err e) p f = f p

pub err_any : {T E P : Type 0} (r : Result T E) → P → OnErr r P
err_any (Ok x) p = tt
err_any (Err e) p = p

pub err_both : {T E Q : Type 0} {P R : E → Type 0} (r : Result T E) → IfErr r P → OnErr r Q → ((e : E) → P e → Q → R e) → IfErr r R
err_both (Ok x) p q f = tt
err_both (Err e) p q f = f e p q
