pub mod NoJobs
