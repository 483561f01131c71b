-- The order of answers that runs share with byte maps and listings: the sizes and features, then one more test, then the work. A refusal keeps what was
-- there.
use Rattle.std.specs.Prelude.{if◌then◌else◌}
use mathlib.Core.Path.{◌≡◌}
use mathlib.Core.Bool.{Bool, true, false}

-- the tests, what each answers where it fails, and what there is in a buffer
pub record Order (A B : Type 0) : Type 0 where
  pub sizes : Bool
  pub unsized : A
  pub test : Bool
  pub failed : A
  pub done : A
  pub old : B
  pub new : B

module _ {A B : Type 0} (o : Order A B) where
  abbrev Gives : A → B → Type 0
  Gives r after = (r ≡ (if o.sizes then (if o.test then o.done else o.failed) else o.unsized)) × (after ≡ (if o.sizes then (if o.test then o.new else o.old) else o.old))

  pub wrong_sizes : o.sizes ≡ false → (r : A) → r ≡ o.unsized → Gives r o.old
  wrong_sizes h r e = (rw h e, rw h)

  module _ (h : o.sizes ≡ true) where
    pub test_fails : o.test ≡ false → (r : A) → r ≡ o.failed → Gives r o.old
    test_fails t r e = (rw (h, t) e, rw (h, t))

    pub all_pass : o.test ≡ true → (r : A) (after : B) → (r ≡ o.done) × (after ≡ o.new) → Gives r after
    all_pass t r after e = (rw (h, t) e.0, rw (h, t) e.1)
