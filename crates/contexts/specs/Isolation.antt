-- The laws of what a call sees and changes.
use Rattle.std.specs.Prelude.{◌≡◌, ◌<◌, ℕ, Some, length}
use Rattle.std.specs.Option.{option_map}
use Rattle.contexts.specs.declared.parts.Context.{Context}
use Rattle.contexts.specs.declared.parts.ExchangeEntry.{ExchangeEntry}
use Rattle.contexts.specs.declared.parts.Contexts.{Contexts}
use Rattle.contexts.specs.Reached.{Seen, Changes, seen_of, vm_in, context_in, exchange_at, put_of, seen_after}

-- what was put is seen, by the SAME context
abbrev pub PutIsSeen : Type 0
PutIsSeen = (s : Changes) (vm e : ℕ) (h : Contexts) → vm < length h.vms → seen_of (put_of s vm e h) vm e ≡ seen_after s (seen_of h vm e)

-- ISOLATION: two hosts that look the same to a call do so afterwards, whatever the call makes of what it sees
abbrev pub IsIsolated : Type 0
IsIsolated = (call : Seen → Changes) (vm e : ℕ) (h k : Contexts) → vm < length h.vms → vm < length k.vms → seen_of h vm e ≡ seen_of k vm e →
    seen_of (put_of (call (seen_of h vm e)) vm e h) vm e ≡ seen_of (put_of (call (seen_of k vm e)) vm e k) vm e

-- ALL ELSE STAYS AS IT WAS: other VMs, and of this one its name, its configuration and the last id drawn; other contexts of
-- the VM, but for the tick of the root; each exchange's line, and exchanges of which the context is none; and what is given
pub record Stays (s : Changes) (vm e : ℕ) (h : Contexts) : Type 0 where
  pub vms : (w : ℕ) → (w ≡ vm → ⊥) → vm_in (put_of s vm e h) w ≡ vm_in h w
  pub many : length (put_of s vm e h).vms ≡ length h.vms
  pub name : (vm_in (put_of s vm e h) vm).name ≡ (vm_in h vm).name
  pub configuration : (vm_in (put_of s vm e h) vm).configuration ≡ (vm_in h vm).configuration
  pub last : (vm_in (put_of s vm e h) vm).last ≡ (vm_in h vm).last
  pub contexts : (d : ℕ) → (d ≡ e → ⊥) → ((c : Context) → context_in h vm e ≡ Some c → d ≡ c.root → ⊥) → context_in (put_of s vm e h) vm d ≡ context_in h vm d
  pub owns : (d : ℕ) → (d ≡ e → ⊥) → option_map (λ (c : Context). c.own) (context_in (put_of s vm e h) vm d) ≡ option_map (λ (c : Context). c.own) (context_in h vm d)
  pub exchanges : (n : ℕ) → ((c : Context) → context_in h vm e ≡ Some c → c.exchange ≡ Some n → ⊥) → exchange_at (put_of s vm e h).exchanges n ≡ exchange_at h.exchanges n
  pub lines : (n : ℕ) → option_map (λ (x : ExchangeEntry). x.line) (exchange_at (put_of s vm e h).exchanges n) ≡ option_map (λ (x : ExchangeEntry). x.line) (exchange_at h.exchanges n)
  pub plugins : (put_of s vm e h).plugins ≡ h.plugins
  pub level : (put_of s vm e h).level ≡ h.level
  pub random_key : (put_of s vm e h).random_key ≡ h.random_key
  pub calls : (put_of s vm e h).calls ≡ h.calls
  pub is_tcp : (put_of s vm e h).is_tcp ≡ h.is_tcp

abbrev pub AllElseStays : Type 0
AllElseStays = (s : Changes) (vm e : ℕ) (h : Contexts) → vm < length h.vms → Stays s vm e h

-- Two contexts of one exchange, of one VM or of two, see the same of it.
abbrev pub MapsAreShared : Type 0
MapsAreShared = (h : Contexts) (vm e wm d : ℕ) (c b : Context) → context_in h vm e ≡ Some c → context_in h wm d ≡ Some b → c.exchange ≡ b.exchange →
    (seen_of h vm e).reach.exchange ≡ (seen_of h wm d).reach.exchange
