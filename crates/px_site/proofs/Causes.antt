-- How counts compose over calls, and what a counted fault gives.
use Rattle.std.proofs.Common.{◌≡◌, ◌≤◌, ◌+◌, ◌-◌, ◌^◌, min, Bool, true, cond, refl, ap, ◌∙◌, Err, arith}
use Rattle.px_site.specs.Cause.{Counts, NoneFell, HasCause, Counted, Rose, same_fault, with_fault}
use Rattle.px_site.specs.declared.error.Fault.{Fault}
use Rattle.px_site.specs.declared.error.Fault.TheVariants.{Read, Write, Sync, Remove, List, Tell}
use Rattle.px_site.specs.declared.error.SiteError.{SiteError}
use Rattle.px_site.specs.declared.error.SiteError.TheVariants.{Fault as Failed}

-- a call after a call: no count fell over both
pub then_none_fell : {a b c : Counts} → NoneFell a b → NoneFell b c → NoneFell a c
then_none_fell p q =
    record {
      faults = λ f. omega (arith, p.faults f, q.faults f);
      tell_faults = omega (arith, p.tell_faults, q.tell_faults);
      shorts = omega (arith, p.shorts, q.shorts);
      same = q.same ∙ p.same;
    }

-- before the first call of a function, or where none was made
pub no_fall : {a : Counts} → NoneFell a a
no_fall {a} = record { faults = λ f. omega arith; tell_faults = omega arith; shorts = omega arith; same = refl }

-- a later call's error has its cause from an earlier start on
pub earlier_cause : {a b c : Counts} {e : SiteError} → NoneFell a b → HasCause b c e → HasCause a c e
earlier_cause p cause = record { fault = λ f is. omega (arith, p.faults f, cause.fault f is); short = λ is. omega (arith, p.shorts, cause.short is) }

same_fault_self : (kind : Fault) → same_fault kind kind ≡ true
same_fault_self Read = refl
same_fault_self Write = refl
same_fault_self Sync = refl
same_fault_self Remove = refl
same_fault_self List = refl
same_fault_self Tell = refl

-- counters of which only that of one kind went up have counted a fault of this kind
pub kind_counted : {T : Type 0} → (kind : Fault) (old new : Counts) → ((fault : Fault) → old.faults fault ≤ new.faults fault) → ((fault : Fault) → new.faults fault ≡ with_fault kind old.faults fault) → new.tell_faults ≡ old.tell_faults → new.shorts ≡ old.shorts → new.reference ≡ old.reference → Counted {T = T} kind old new (Err (Failed kind))
kind_counted kind old new grew is tell short same =
    record {
      none_fell = record { faults = grew; tell_faults = omega arith; shorts = omega arith; same = same };
      cause = record {
        fault = λ fault is_kind. risen fault (cc);
        short = λ h. absurd (cc);
      };
      own = refl;
      exact = λ i. record { faults = λ fault. is fault i; tell_faults = tell i; shorts = short i; reference = same i };
    }
  where
    risen : (fault : Fault) → kind ≡ fault → Rose (old.faults fault) (new.faults fault)
    risen fault is_kind = let at : same_fault kind fault ≡ true = rw (← is_kind) (same_fault_self kind) in
        let more : new.faults fault ≡ min (old.faults fault + 1) (2 ^ 64 - 1) = is fault ∙ ap (λ (b : Bool). cond b (min (old.faults fault + 1) (2 ^ 64 - 1)) (old.faults fault)) at in
        omega (arith, more)
