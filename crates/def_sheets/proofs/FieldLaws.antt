-- A field that was read: where two are the same, their values are, and the offsets past them.
use Rattle.std.specs.Prelude.{ℕ, ◌≡◌, Ok}
use Rattle.std.proofs.Common.{ap}
use Rattle.def_sheets.specs.Decode.{Field}

pub same_field : {v n u m : ℕ} → ◌≡◌ {A = Field} (Ok (v, n)) (Ok (u, m)) → (v ≡ u) × (n ≡ m)
same_field {v} {n} {u} {m} h =
    let p : ◌≡◌ {A = ℕ × ℕ} (v, n) (u, m) = cc in (ap (λ (x : ℕ × ℕ). x.0) p, ap (λ (x : ℕ × ℕ). x.1) p)
