use Rattle.std.proofs.Crossing.{sync as alloc_sync}
use Rattle.shared_seats.proofs.tables.Tables.TheSendSync as tables
use Rattle.fleet.proofs.Sharing.{config_sync}
use Rattle.fleet.proofs.post.work_all.Goals as goal

-- What the closure holds, in the order of its captures: each is a reference to what may be shared. Nothing is of the types that it only names.
pub for_each_mut-requires-sync-F : goal.for_each_mut-requires-sync-F
for_each_mut-requires-sync-F g c κs within =
    let rt = c.type_bounds.sync-R in
    let maker = c.type_bounds.sync-M in
    let gate = c.type_bounds.sync-G in
    record {
      shared = λ x b o κ. (
        (
          ((λ q. tt), rt.shared x.0.now x.0.ref_ptr.0 x.0.ref_ptr.1 _),
          (
            ((λ q. tt), alloc_sync.shared x.1.now x.1.ref_ptr.0 x.1.ref_ptr.1 κ),
            (
              ((λ q. tt), config_sync.shared x.2.now x.2.ref_ptr.0 x.2.ref_ptr.1 _),
              (
                ((λ q. tt), maker.shared x.3.now x.3.ref_ptr.0 x.3.ref_ptr.1 _),
                (
                  ((λ q. tt), tables.the_sync.shared x.4.now x.4.ref_ptr.0 x.4.ref_ptr.1 _),
                  (((λ q. tt), gate.shared x.5.now x.5.ref_ptr.0 x.5.ref_ptr.1 _), ((tt, λ q. tt), tt)),
                ),
              ),
            ),
          ),
        ),
        λ q. tt,
      );
    }
